use Rattle.std.proofs.Common.{◌≡◌, ◌++◌, map, drop}
use Rattle.pst_model.specs.ConstraintTree.{view_slot}
use Rattle.pst_legal.specs.Standing.{value_of}
use Rattle.pst_refusals.proofs.fails.values.Given as goal

abbrev pub invariant-loop-slot : goal.invariant-loop-slot
invariant-loop-slot g l = l.found.items ++ map (λ slot. value_of (g.S.Site.standing l.site slot)) (map view_slot (drop l.slot-index l.slots)) ≡ map (λ slot. value_of (g.S.Site.standing l.site slot)) (map view_slot l.slots)
