use Rattle.std.proofs.Common.{◌↔◌, ℕ, List, subst, IsTrue}
use Rattle.pst_scen.specs.declared.tree.Node.{Node}
use Rattle.pst_nodes.specs.Over.{IsLeafOf, Over, IsAwaited}
use Rattle.pst_nodes.proofs.Climbs.{not_true}
use Rattle.pst_nodes.proofs.Awaits.{leaf_within, leaf_inside, before_by_leaves}
use Rattle.pst_nodes.proofs.statements.stands_before.Goals as goal

pub returns-in_default : goal.returns-in_default
returns-in_default c = (
  λ t. absurd (not_true t),
  λ b. let e = b.earlier in absurd (subst (λ (nodes : List Node). (n : ℕ) → IsLeafOf nodes c.args.a n → ⊥) c.as_slice-nodes.ensures c.in_default.ensures e.a_inside.leaf (leaf_inside c.args.scenario.now.nodes e.earlier c.args.a e.a_inside)),
)

pub returns-in_default-leaf_of : goal.returns-in_default-leaf_of
returns-in_default-leaf_of c = (
  λ t. absurd (not_true t),
  λ b. let e = b.earlier in absurd (subst (λ (nodes : List Node). (n : ℕ) → IsLeafOf nodes c.args.b n → ⊥) c.as_slice-nodes.ensures c.in_default-leaf_of.ensures e.b_inside.leaf (leaf_inside c.args.scenario.now.nodes e.later c.args.b e.b_inside)),
)

pub is_leaf_before-requires-clause-leaf_in : goal.is_leaf_before-requires-clause-leaf_in
is_leaf_before-requires-clause-leaf_in c = leaf_within c.as_slice-nodes.result.now c.args.a c.in-Some.leaf c.in-Some.ensures

pub is_leaf_before-requires-clause-other_in : goal.is_leaf_before-requires-clause-other_in
is_leaf_before-requires-clause-other_in c = leaf_within c.as_slice-nodes.result.now c.args.b c.in-Some-leaf_of.other c.in-Some-leaf_of.ensures

pub returns : goal.returns
returns c =
    let same = c.as_slice-nodes.ensures in
    let a_leaf = subst (λ (nodes : List Node). IsLeafOf nodes c.args.a c.in-Some.leaf) same c.in-Some.ensures in
    let b_leaf = subst (λ (nodes : List Node). IsLeafOf nodes c.args.b c.in-Some-leaf_of.other) same c.in-Some-leaf_of.ensures in
    let decided = subst (λ (nodes : List Node). IsTrue c.is_leaf_before.result ↔ Over nodes (IsAwaited nodes c.in-Some.leaf c.in-Some-leaf_of.other) c.in-Some.leaf) same c.is_leaf_before.ensures in
    let leaves = before_by_leaves c.args.scenario.now c.args.a c.args.b c.in-Some.leaf c.in-Some-leaf_of.other c.requires.one_leaf a_leaf b_leaf in
    (λ t. leaves.0 (decided.0 t), λ b. decided.1 (leaves.1 b))
