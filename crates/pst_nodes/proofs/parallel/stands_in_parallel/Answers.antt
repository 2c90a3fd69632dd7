use Rattle.std.proofs.Common.{◌↔◌, ℕ, List, subst, IsTrue}
use Rattle.pst_scen.specs.declared.tree.Node.{Node}
use Rattle.pst_nodes.specs.Over.{IsLeafOf, Over, IsBranch}
use Rattle.pst_nodes.proofs.Awaits.{leaf_within, leaf_inside, under_inside}
use Rattle.pst_nodes.proofs.parallel.stands_in_parallel.Goals as goal

pub returns-in_default : goal.returns-in_default
returns-in_default c = λ b h.
    absurd (subst (λ (nodes : List Node). (n : ℕ) → IsLeafOf nodes c.args.a n → ⊥) c.as_slice-nodes.ensures c.in_default.ensures h.a_inside.leaf (leaf_inside c.args.scenario.now.nodes h.a_branch c.args.a h.a_inside))

pub is_leaf_in_branch-requires-clause-leaf_in : goal.is_leaf_in_branch-requires-clause-leaf_in
is_leaf_in_branch-requires-clause-leaf_in c = leaf_within c.as_slice-nodes.result.now c.args.a c.in-Some.leaf c.in-Some.ensures

pub returns : goal.returns
returns c = λ b h.
    let same = c.as_slice-nodes.ensures in
    let nodes = c.args.scenario.now.nodes in
    let a_leaf = subst (λ (nodes : List Node). IsLeafOf nodes c.args.a c.in-Some.leaf) same c.in-Some.ensures in
    let decided = subst (λ (nodes : List Node). IsTrue c.is_leaf_in_branch.result ↔ Over nodes (IsBranch nodes) c.in-Some.leaf) same c.is_leaf_in_branch.ensures in
    decided.1 (record {
      top = h.a_branch;
      under = under_inside nodes c.args.a c.in-Some.leaf a_leaf c.requires.one_leaf h.a_branch h.a_inside;
      has = record { block = h.block; is_block = record { node = h.node; is = h.is; parallel = h.parallel }; is_child = h.a_child };
    })
