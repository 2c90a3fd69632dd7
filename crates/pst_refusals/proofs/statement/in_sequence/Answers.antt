use Rattle.std.proofs.Common.{sym, ap, ◌∙◌}
use Rattle.pst_model.specs.ModelView.{view_step}
use Rattle.pst_scen.specs.declared.tree.Fill.TheVariants as fill
use Rattle.pst_legal.specs.Statements.{step_below}
use Rattle.pst_refusals.proofs.Steps.{sequence_at, view_get}
use Rattle.pst_refusals.proofs.statement.in_sequence.Goals as goal

pub returns-in-Sequence : goal.returns-in-Sequence
returns-in-Sequence c =
    let e = ap (λ s. step_below fill.Sequence (view_step s) c.args.index) c.in-Sequence.is ∙ sequence_at c.in-Sequence.steps c.args.index in
    view_get view_step c.deref.result.now c.in-Sequence.steps.items c.args.index c.get.result c.get.ensures.lookup.0 c.get.ensures.lookup.1 c.deref.ensures.value ∙ sym e
