use Rattle.std.proofs.Common.{sym, ap, ◌∙◌}
use Rattle.std.specs.Prelude.{slice_get}
use Rattle.std.specs.Option.{option_map}
use Rattle.pst_model.specs.declared.activity.Branch.{Branch}
use Rattle.pst_model.specs.ModelView.{view_step}
use Rattle.pst_scen.specs.declared.tree.Fill.TheVariants as fill
use Rattle.pst_legal.specs.Statements.{step_below}
use Rattle.pst_refusals.proofs.Steps.{select_at}
use Rattle.pst_refusals.proofs.statement.in_select.Goals as goal

pub returns-in-Select : goal.returns-in-Select
returns-in-Select c =
    let e = ap (λ s. step_below (fill.Select c.args.branch) (view_step s) c.args.index) c.in-Select.is ∙ select_at c.args.branch c.in-Select.branches c.args.index in
    c.branch_at.ensures ∙ ap (λ xs. option_map (λ (b : Branch). view_step b.step) (slice_get xs c.args.branch)) c.as_slice.ensures.value ∙ sym e
