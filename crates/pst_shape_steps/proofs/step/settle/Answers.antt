use Rattle.std.proofs.Common.{◌∙◌}
use Rattle.pst_model.specs.ModelView.{view_model}
use Rattle.pst_shape_parts.specs.Trees.{tree_of, scenario_of}
use Rattle.pst_shape_steps.proofs.Closed.{open_placed, closed_stops}
use Rattle.pst_shape_steps.proofs.step.settle.Goals as goal

pub returns-then-is_closed : goal.returns-then-is_closed
returns-then-is_closed c =
    let m = view_model c.args.model.now in
    let t = tree_of c.loop-at.grown in
    record {
      reads = λ seed level place left.
          c.loop-at.invariant.reads seed level place left
          ∙ closed_stops m seed c.loop-at.at (scenario_of m level t) place left (open_placed c.loop-at.at t c.loop-at.invariant.opens) (c.is_closed.ensures.closed c.if-is_closed.true);
      ready = tt;
      opens = tt;
      grows = c.loop-at.invariant.grows;
      grown = c.loop-at.invariant.grown;
    }
