use Rattle.std.proofs.Common.{◌≡◌, map, drop}
use Rattle.std.specs.List.{list_any}
use Rattle.pst_model.specs.ConstraintTree.{view_slot}
use Rattle.pst_refusals.specs.Inlines.{is_outer_slot}
use Rattle.pst_refusals.proofs.far.some_outer_slot.Given as goal

abbrev pub invariant-loop-slot : goal.invariant-loop-slot
invariant-loop-slot l = list_any is_outer_slot (map view_slot (drop l.slot-index l.slots)) ≡ list_any is_outer_slot (map view_slot l.slots)
