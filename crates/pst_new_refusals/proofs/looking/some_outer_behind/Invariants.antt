use Rattle.std.proofs.Common.{◌≡◌, map, drop}
use Rattle.std.specs.List.{list_any}
use Rattle.pst_model.specs.ConstraintTree.{view_slot}
use Rattle.pst_new_refusals.specs.Settled.{is_outer_behind}
use Rattle.pst_new_refusals.proofs.looking.some_outer_behind.Given as goal

abbrev pub invariant-loop-slot : goal.invariant-loop-slot
invariant-loop-slot l = list_any (is_outer_behind l.handle) (map view_slot (drop l.slot-index l.slots)) ≡ list_any (is_outer_behind l.handle) (map view_slot l.slots)
