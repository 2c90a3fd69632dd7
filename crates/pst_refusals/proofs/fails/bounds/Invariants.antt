use Rattle.std.proofs.Common.{◌≡◌, ◌++◌, map, drop}
use Rattle.pst_model.specs.ConstraintTree.{view_slot}
use Rattle.pst_legal.specs.Standing.{bound_of}
use Rattle.pst_refusals.proofs.fails.bounds.Given as goal

abbrev pub invariant-loop-slot : goal.invariant-loop-slot
invariant-loop-slot g l = l.found.items ++ map (λ slot. bound_of (g.S.Site.standing l.site slot)) (map view_slot (drop l.slot-index l.slots)) ≡ map (λ slot. bound_of (g.S.Site.standing l.site slot)) (map view_slot l.slots)
