use Rattle.pst_domain.specs.Bounds.{AreUpright}
use Rattle.pst_tests_numbers.proofs.systems.read_bounds.Given as goal

abbrev pub invariant-loop-word : goal.invariant-loop-word
invariant-loop-word l = AreUpright l.spans.items
