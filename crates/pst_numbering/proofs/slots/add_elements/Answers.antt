use Rattle.std.proofs.Common.{◌≡◌, ℕ, IfOk, ap, subst, ◌∙◌}
use Rattle.pst_terms.specs.Slots.{with_slot, slot_number}
use Rattle.pst_numbering.specs.Kept.{view_all, kept_at}
use Rattle.pst_numbering.proofs.Found.{element_more, first_is}
use Rattle.pst_numbering.proofs.slots.add_elements.Goals as goal

pub loop-field-preserved : goal.loop-field-preserved
loop-field-preserved c =
    element_more (view_all c.loop-field.slots) (view_all c.add_slot.new.slots) _ c.args.first c.loop-field.field c.in-Some.end c.loop-field-test.true
    (c.in_ok-add_slot.ensures.slots ∙ ap (with_slot (view_all c.loop-field.slots)) c.with_field.ensures)
    c.loop-field.invariant

pub returns-clause-number : goal.returns-clause-number
returns-clause-number c =
    let slots = view_all c.loop-field.slots in
    subst (λ (k : ℕ). IfOk c.narrow.result (λ n. n ≡ k))
    (c.number_of.ensures
    ∙ ap (slot_number slots) (c.with_field-2.ensures ∙ ap (kept_at c.args.first) c.field-from.ensures)
    ∙ first_is slots c.args.first c.args.count c.if-count-eq0.false)
    c.narrow.ensures
