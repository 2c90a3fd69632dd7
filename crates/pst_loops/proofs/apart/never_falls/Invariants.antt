use Rattle.pst_loops.specs.Apart.{NeverFallsTo}
use Rattle.pst_loops.proofs.apart.never_falls.Given as goal

abbrev pub invariant-loop-at : goal.invariant-loop-at
invariant-loop-at l = NeverFallsTo l.at l.edges l.levels
