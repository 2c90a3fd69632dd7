use Rattle.std.proofs.Common.{◌↔◌, ℕ, List, subst, IsTrue}
use Rattle.pst_scen.specs.declared.tree.Node.{Node}
use Rattle.pst_nodes.specs.Over.{IsLeafOf, Over, IsBranchBeside}
use Rattle.pst_nodes.proofs.Climbs.{not_true}
use Rattle.pst_nodes.proofs.Awaits.{leaf_within, leaf_inside, parallel_by_leaves}
use Rattle.pst_nodes.proofs.parallel.stand_parallel.Goals as goal

pub returns-in_default : goal.returns-in_default
returns-in_default c = (
  λ t. absurd (not_true t),
  λ b. absurd (subst (λ (nodes : List Node). (n : ℕ) → IsLeafOf nodes c.args.a n → ⊥) c.as_slice-nodes.ensures c.in_default.ensures b.a_inside.leaf (leaf_inside c.args.scenario.now.nodes b.a_branch c.args.a b.a_inside)),
)

pub returns-in_default-leaf_of : goal.returns-in_default-leaf_of
returns-in_default-leaf_of c = (
  λ t. absurd (not_true t),
  λ b. absurd (subst (λ (nodes : List Node). (n : ℕ) → IsLeafOf nodes c.args.b n → ⊥) c.as_slice-nodes.ensures c.in_default-leaf_of.ensures b.b_inside.leaf (leaf_inside c.args.scenario.now.nodes b.b_branch c.args.b b.b_inside)),
)

pub are_leaves_parallel-requires-clause-leaf_in : goal.are_leaves_parallel-requires-clause-leaf_in
are_leaves_parallel-requires-clause-leaf_in c = leaf_within c.as_slice-nodes.result.now c.args.a c.in-Some.leaf c.in-Some.ensures

pub are_leaves_parallel-requires-clause-other_in : goal.are_leaves_parallel-requires-clause-other_in
are_leaves_parallel-requires-clause-other_in c = leaf_within c.as_slice-nodes.result.now c.args.b c.in-Some-leaf_of.other c.in-Some-leaf_of.ensures

pub returns : goal.returns
returns c =
    let same = c.as_slice-nodes.ensures in
    let a_leaf = subst (λ (nodes : List Node). IsLeafOf nodes c.args.a c.in-Some.leaf) same c.in-Some.ensures in
    let b_leaf = subst (λ (nodes : List Node). IsLeafOf nodes c.args.b c.in-Some-leaf_of.other) same c.in-Some-leaf_of.ensures in
    let decided = subst (λ (nodes : List Node). IsTrue c.are_leaves_parallel.result ↔ Over nodes (IsBranchBeside nodes c.in-Some-leaf_of.other) c.in-Some.leaf) same c.are_leaves_parallel.ensures in
    let leaves = parallel_by_leaves c.args.scenario.now c.args.a c.args.b c.in-Some.leaf c.in-Some-leaf_of.other c.requires.one_leaf a_leaf b_leaf in
    (λ t. leaves.0 (decided.0 t), λ b. decided.1 (leaves.1 b))
