use Rattle.std.proofs.Common.{◌∙◌, map, ap}
use Rattle.pst_model.specs.ModelView.{view_branch}
use Rattle.pst_legal.specs.Menus.{available}
use Rattle.pst_legal.specs.Reading.{then_read, read_menu}
use Rattle.pst_shape_parts.specs.Contexts.{context_of}
use Rattle.pst_shape_parts.specs.Trees.{scenario_of}
use Rattle.pst_shape_steps.specs.Pending.{way_at, read_stack}
use Rattle.pst_shape_steps.proofs.Statements.{branches_same}
use Rattle.pst_shape_steps.proofs.step.enter_select.Goals as goal

pub returns-clause-reads : goal.returns-clause-reads
returns-clause-reads c = λ m t seed level place left.
    let k = context_of c.args.frame.value in
    ap (λ x. then_read (read_menu seed x (way_at m seed c.args.levels c.args.parent) (scenario_of m level t) place left) (read_stack m seed c.args.below.value))
    (branches_same k c.in_ok-branches.branches (available k (map view_branch c.args.branches.now)) (c.in_ok-branches.ensures ∙ ap (λ f. available (context_of f) (map view_branch c.args.branches.now)) c.deref.ensures))
