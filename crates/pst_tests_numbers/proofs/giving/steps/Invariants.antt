use Rattle.pst_reasons.specs.Giving.{IsKept}
use Rattle.pst_tests_numbers.proofs.giving.steps.Given as goal

abbrev pub invariant-loop-word : goal.invariant-loop-word
invariant-loop-word l = IsKept l.narrowed
