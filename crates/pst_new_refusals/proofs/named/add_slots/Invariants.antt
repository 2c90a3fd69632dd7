use Rattle.std.proofs.Common.{◌≡◌, ◌++◌, map, drop}
use Rattle.std.specs.List.{flat_map}
use Rattle.pst_model.specs.ConstraintTree.{view_slot}
use Rattle.pst_new_refusals.specs.Named.{outer_handle}
use Rattle.pst_new_refusals.proofs.named.add_slots.Given as goal

abbrev pub invariant-loop-slot : goal.invariant-loop-slot
invariant-loop-slot l = l.found.items ++ flat_map outer_handle (map view_slot (drop l.slot-index l.slots)) ≡ l.initial.found.items ++ flat_map outer_handle (map view_slot l.slots)
