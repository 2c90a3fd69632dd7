use Rattle.pst_loops.specs.First.{IsFirstWithin}
use Rattle.pst_loops.proofs.least.first_of_all.Given as goal

abbrev pub invariant-loop-at : goal.invariant-loop-at
invariant-loop-at l = IsFirstWithin l.at l.declarations l.found
