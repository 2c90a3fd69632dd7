use Rattle.pst_tests_scenarios.specs.Checked.{AreLeavesTo}
use Rattle.pst_tests_scenarios.proofs.built.count_leaves.Given as goal

abbrev pub invariant-loop-n : goal.invariant-loop-n
invariant-loop-n l = AreLeavesTo l.nodes l.acts l.n l.count
