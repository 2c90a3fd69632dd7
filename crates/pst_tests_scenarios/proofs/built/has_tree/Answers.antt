use Rattle.std.proofs.Common.{refl}
use Rattle.pst_tests_scenarios.proofs.Checks.{preorder_whole}
use Rattle.pst_tests_scenarios.proofs.built.has_tree.Goals as goal

pub returns : goal.returns
returns c = λ t. (c.if-not-has_earlier_parents.ensures refl, preorder_whole c.args.nodes.now (c.if-not-is_rooted.ensures refl) (c.is_in_preorder.ensures t))
