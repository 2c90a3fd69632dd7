use Rattle.std.proofs.Common.{◌<◌, length}
use Rattle.pst_scen.specs.Tree.{StandsUnder}
use Rattle.pst_tests_scenarios.proofs.built.stands_over.Given as goal

abbrev pub decreases-parents : goal.decreases-parents
decreases-parents l = l.at

abbrev pub invariant-parents : goal.invariant-parents
invariant-parents l = record { within : l.at < length l.nodes; under : StandsUnder l.nodes l.at l.n }
