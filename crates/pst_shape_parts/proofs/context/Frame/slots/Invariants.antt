use Rattle.std.proofs.Common.{◌≡◌, ◌++◌, map, drop}
use Rattle.pst_model.specs.ConstraintTree.{view_slot}
use Rattle.pst_legal.specs.Pieces.{slot_in}
use Rattle.pst_shape_parts.specs.Contexts.{context_of}
use Rattle.pst_shape_parts.proofs.context.Frame.slots.Given as goal

abbrev pub invariant-loop-slot : goal.invariant-loop-slot
invariant-loop-slot l = l.values.items ++ map (slot_in (context_of l.self)) (map view_slot (drop l.slot-index l.slots)) ≡ map (slot_in (context_of l.self)) (map view_slot l.slots)
