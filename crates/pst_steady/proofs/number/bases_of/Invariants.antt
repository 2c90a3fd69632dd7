use Rattle.pst_steady.specs.Numbered.{AreBasesSoFar}
use Rattle.pst_steady.proofs.number.bases_of.Given as goal

abbrev pub invariant-loop-at : goal.invariant-loop-at
invariant-loop-at l = AreBasesSoFar l.index l.at l.bases.items
