use Rattle.std.proofs.Common.{sym, ap, ◌∙◌}
use Rattle.pst_model.specs.ModelView.{view_step}
use Rattle.pst_scen.specs.declared.tree.Fill.TheVariants as fill
use Rattle.pst_legal.specs.Statements.{step_below}
use Rattle.pst_refusals.proofs.Steps.{schedule_at, view_get}
use Rattle.pst_refusals.proofs.statement.in_schedule.Goals as goal

pub returns-in-Schedule : goal.returns-in-Schedule
returns-in-Schedule c =
    let e = ap (λ s. step_below fill.Schedule (view_step s) c.args.index) c.in-Schedule.is ∙ schedule_at c.in-Schedule.steps c.args.index in
    view_get view_step c.deref.result.now c.in-Schedule.steps.items c.args.index c.get.result c.get.ensures.lookup.0 c.get.ensures.lookup.1 c.deref.ensures.value ∙ sym e
