use Rattle.std.proofs.Common.{◌≡◌, ◌++◌, drop}
use Rattle.pst_constraints.proofs.premises.copied_slots.Given as goal

abbrev pub invariant-loop-slot : goal.invariant-loop-slot
invariant-loop-slot l = l.copy.items ++ drop l.slot-index l.slots ≡ l.slots
