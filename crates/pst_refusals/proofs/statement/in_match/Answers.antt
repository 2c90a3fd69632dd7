use Rattle.std.proofs.Common.{sym, ap, ◌∙◌, Some}
use Rattle.std.specs.Prelude.{slice_get}
use Rattle.std.specs.Option.{option_map}
use Rattle.pst_model.specs.declared.activity.Arm.{Arm}
use Rattle.pst_model.specs.ModelView.{view_step}
use Rattle.pst_scen.specs.declared.tree.Fill.TheVariants as fill
use Rattle.pst_legal.specs.Statements.{step_below}
use Rattle.pst_refusals.proofs.Steps.{match_at}
use Rattle.pst_refusals.proofs.statement.in_match.Goals as goal

pub returns-in-Some : goal.returns-in-Some
returns-in-Some c =
    let e = ap (λ a. step_below (fill.Match a) (view_step c.args.step.now) c.args.index) c.in-Some.is ∙ ap (λ s. step_below (fill.Match (Some c.in-Some.arm)) (view_step s) c.args.index) c.in-Match.is ∙ match_at c.in-Some.arm c.in-Match.value c.in-Match.arms c.in-Match.other c.args.index in
    c.arm_at.ensures ∙ ap (λ xs. option_map (λ (a : Arm). view_step a.step) (slice_get xs c.in-Some.arm)) c.as_slice.ensures.value ∙ sym e
