use Rattle.std.proofs.Common.{◌≡◌, ◌++◌, drop, map}
use Rattle.pst_model.specs.ConstraintTree.{view_slot}
use Rattle.pst_numbering.specs.Kept.{view_all}
use Rattle.pst_numbering.proofs.slots.slots_of.Given as goal

abbrev pub invariant-loop-slot : goal.invariant-loop-slot
invariant-loop-slot l = map view_slot l.slots.items ++ view_all (drop l.slot-index l.kept) ≡ view_all l.kept
