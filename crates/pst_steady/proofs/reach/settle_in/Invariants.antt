use Rattle.pst_steady.specs.Reached.{AreSound}
use Rattle.pst_steady.proofs.reach.settle_in.Given as goal

abbrev pub invariant-loop-at : goal.invariant-loop-at
invariant-loop-at l = AreSound l.seeds l.bases l.values
