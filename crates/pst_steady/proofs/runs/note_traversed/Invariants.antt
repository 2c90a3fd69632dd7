use Rattle.pst_steady.specs.Run.{AreRuns}
use Rattle.pst_steady.proofs.runs.note_traversed.Given as goal

abbrev pub invariant-loop-traversed : goal.invariant-loop-traversed
invariant-loop-traversed l = AreRuns l.tallies l.slots l.runs
