use Rattle.std.proofs.Common.{sym, ap, ◌∙◌}
use Rattle.pst_model.specs.ModelView.{view_step}
use Rattle.pst_scen.specs.declared.tree.Fill.TheVariants as fill
use Rattle.pst_legal.specs.Statements.{step_below}
use Rattle.pst_refusals.proofs.Steps.{joined_at, view_get}
use Rattle.pst_refusals.proofs.statement.in_joined.Goals as goal

pub returns-in-Joined : goal.returns-in-Joined
returns-in-Joined c =
    let e = ap (λ s. step_below (fill.Joined c.args.parallel c.args.joined) (view_step s) c.args.index) c.in-Joined.is ∙ joined_at c.args.parallel c.args.joined c.in-Joined.parallel c.in-Joined.join c.in-Joined.steps c.args.index in
    view_get view_step c.deref.result.now c.in-Joined.steps.items c.args.index c.get.result c.get.ensures.lookup.0 c.get.ensures.lookup.1 c.deref.ensures.value ∙ sym e
