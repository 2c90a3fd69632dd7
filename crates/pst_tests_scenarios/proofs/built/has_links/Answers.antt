use Rattle.std.proofs.Common.{refl}
use Rattle.pst_tests_scenarios.proofs.built.has_links.Goals as goal

pub returns : goal.returns
returns c = λ t. (c.if-not-are_acts_linked.ensures refl, c.has_no_rivals.ensures t)
