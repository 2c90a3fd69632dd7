use Rattle.std.proofs.Common.{length, refl, sym, subst}
use Rattle.std.proofs.lemmas.Option.{slice_get_read}
use Rattle.pst_scen.specs.declared.tree.Node.{Node}
use Rattle.pst_tests_scenarios.specs.Checked.{IsNextLeaf}
use Rattle.pst_tests_scenarios.proofs.Checks.{leaf_step}
use Rattle.pst_tests_scenarios.proofs.built.count_leaves.Goals as goal

pub loop-n-preserved : goal.loop-n-preserved
loop-n-preserved c =
    let nodes = c.args.nodes.now in
    let is = slice_get_read nodes (length nodes) c.loop-n.n c.index-nodes-n.result refl c.loop-n-test.true c.index-nodes-n.is in
    leaf_step nodes c.loop-n.n c.index-nodes-n.result is c.args.acts.now c.loop-n.count c.loop-n.invariant c.in-Some.k
    (subst (λ (node : Node). IsNextLeaf node.fill c.args.acts.now c.loop-n.n c.loop-n.count c.in-Some.k) (sym c.index-nodes-n.is) c.in-Some.ensures)
