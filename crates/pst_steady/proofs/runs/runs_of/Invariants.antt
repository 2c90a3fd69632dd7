use Rattle.pst_steady.specs.Run.{AreRuns}
use Rattle.pst_steady.proofs.runs.runs_of.Given as goal

abbrev pub invariant-loop-back : goal.invariant-loop-back
invariant-loop-back l = AreRuns l.tallies l.slots l.runs
