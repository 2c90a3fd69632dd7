use Rattle.pst_steady.specs.Ranged.{AreRanged}
use Rattle.pst_steady.proofs.ranges.are_ranged.Given as goal

abbrev pub invariant-loop-at : goal.invariant-loop-at
invariant-loop-at l = AreRanged l.places l.declarations l.seeds l.bases l.ranges l.slots l.at
