use Rattle.std.proofs.Common.{List, refl, subst}
use Rattle.pst_scen.specs.declared.tree.Node.{Node}
use Rattle.pst_scen.specs.Laws.{IsPreorder}
use Rattle.pst_scen.specs.Scenarios.{AreInPreorder}
use Rattle.pst_tests_scenarios.proofs.Checks.{linked_whole}
use Rattle.pst_tests_scenarios.proofs.built.is_built.Goals as goal

pub returns : goal.returns
returns c = λ t.
    let s = c.args.scenario.now in
    let tree = subst (λ (nodes : List Node). IsPreorder nodes × AreInPreorder nodes) c.as_slice.ensures (c.if-not-has_tree.ensures refl) in
    let leaves = c.if-not-has_leaves.ensures refl in
    let links = c.has_links.ensures t in
    record { preorder = tree.1; leaves = leaves.0; linked = linked_whole s links.0 tree.0 leaves.1 leaves.2 links.1; small = c.if-not-is_small.ensures refl }
