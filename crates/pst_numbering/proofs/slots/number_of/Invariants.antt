use Rattle.std.proofs.Common.{◌≡◌, ◌+◌, drop}
use Rattle.pst_terms.specs.Slots.{slot_number}
use Rattle.pst_numbering.specs.Kept.{view_all, view_kept}
use Rattle.pst_numbering.proofs.slots.number_of.Given as goal

abbrev pub invariant-loop-number : goal.invariant-loop-number
invariant-loop-number l = l.number + slot_number (view_all (drop l.number l.slots)) (view_kept l.slot) ≡ slot_number (view_all l.slots) (view_kept l.slot)
