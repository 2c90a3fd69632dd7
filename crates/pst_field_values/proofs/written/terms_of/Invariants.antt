use Rattle.std.proofs.Common.{◌≡◌, ℕ, length, map, Some}
use Rattle.std.specs.Prelude.{slice_get}
use Rattle.pst_model.specs.ConstraintTree.{SlotTree, view_slot}
use Rattle.pst_written_constraints.specs.declared.term.Term.{Term}
use Rattle.pst_field_values.specs.Writing.{IsTermAt}
use Rattle.pst_field_values.proofs.written.terms_of.Given as goal

abbrev pub invariant-loop-slot : goal.invariant-loop-slot
invariant-loop-slot l =
    (length l.terms.items ≡ l.slot-index)
    × ((i : ℕ) (slot : SlotTree) (x : Term) → slice_get (map view_slot l.slots) i ≡ Some slot → slice_get l.terms.items i ≡ Some x → IsTermAt l.subject l.position slot l.base i x)
