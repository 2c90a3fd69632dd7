use Rattle.std.proofs.Common.{◌≡◌, ◌++◌, OnOk, List, ap, subst, sym, ◌∙◌, arith}
use Rattle.std.proofs.lemmas.Grind.{common_steps}
use Rattle.std.proofs.lemmas.List.{append_assoc}
use Rattle.pst_expr.specs.declared.ranges.Span.{Span}
use Rattle.pst_model.specs.declared.body.BodyStep.{BodyStep}
use Rattle.pst_model.specs.ModelView.{view_body_step}
use Rattle.pst_legal.specs.Body.{ranges_in}
use Rattle.pst_body.proofs.Rows.{ranges_in_if, ranges_in_repeat}
use Rattle.pst_body.proofs.need.+ranges.Goals as goal

pub add_ranges_of-returns-in_ok-add_ranges-in-If : goal.add_ranges_of-returns-in_ok-add_ranges-in-If
add_ranges_of-returns-in_ok-add_ranges-in-If t c =
    subst (λ (rs : List Span). OnOk c.add_ranges-in-If.result (c.add_ranges-in-If.new.ranges.items ≡ c.args.ranges.now.items ++ rs))
    (sym (ap (λ (s : BodyStep). ranges_in (view_body_step s)) c.in-If.is ∙ ranges_in_if c.in-If.condition c.in-If.yes c.in-If.no))
    (grind (arith, common_steps, append_assoc))

pub add_ranges_of-returns-in-Repeat : goal.add_ranges_of-returns-in-Repeat
add_ranges_of-returns-in-Repeat t c =
    subst (λ (rs : List Span). OnOk c.add_ranges-in-Repeat.result (c.add_ranges-in-Repeat.new.ranges.items ≡ c.args.ranges.now.items ++ rs))
    (sym (ap (λ (s : BodyStep). ranges_in (view_body_step s)) c.in-Repeat.is ∙ ranges_in_repeat c.in-Repeat.count c.in-Repeat.body))
    (grind (arith, common_steps))
