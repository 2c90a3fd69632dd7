-- Leaves whose actions are numbered in the order of their nodes.
use Rattle.std.proofs.Common.{◌≡◌, ◌↔◌, ◌⊎◌, inl, inr, ◌+◌, ◌++◌, ◌∷◌, [], ℕ, zero, suc, List, length, take, map, cond, true, false, refl, sym, subst, ap, ◌∙◌, arith}
use Rattle.std.specs.List.{enumerate_from, range_with_len, flat_map}
use Rattle.std.proofs.lemmas.List.Sums.{sum_by-cons}
use Rattle.pst_scen.specs.declared.tree.Node.{Node}
use Rattle.pst_scen.specs.declared.tree.Fill.{Fill}
use Rattle.pst_scen.specs.declared.tree.Fill.TheVariants.{Compound, Leaf, Sequence, Parallel, Schedule, Joined, Select, Repeat, Turn, If, Match}
use Rattle.pst_scen.specs.declared.scenario.Scenario.{Scenario}
use Rattle.pst_scen.specs.Scenarios.{leaf_of}
use Rattle.pst_scen.specs.Order.{Before}
use Rattle.pst_order.specs.Built.{IsBuilt}
use Rattle.pst_nodes.specs.Over.{IsLeafOf}
use Rattle.pst_nodes.specs.Tables.{is_leaf, leaf_count, AreNodesNumbered, StandsBefore}
use Rattle.pst_nodes.proofs.Climbs.{same_some}
use Rattle.pst_nodes.proofs.Awaits.{leaf_inside, before_by_leaves}

leaf_or_not : (fill : Fill) → ((a : ℕ) × (fill ≡ Leaf a)) ⊎ ((is_leaf fill ≡ false) × ((n : ℕ) → leaf_of n fill ≡ []))
leaf_or_not (Leaf act) = inl (act, refl)
leaf_or_not (Compound action instance fields) = inr (refl, λ n. refl)
leaf_or_not Sequence = inr (refl, λ n. refl)
leaf_or_not Parallel = inr (refl, λ n. refl)
leaf_or_not Schedule = inr (refl, λ n. refl)
leaf_or_not (Joined parallel joined) = inr (refl, λ n. refl)
leaf_or_not (Select branch) = inr (refl, λ n. refl)
leaf_or_not Repeat = inr (refl, λ n. refl)
leaf_or_not (Turn index) = inr (refl, λ n. refl)
leaf_or_not (If taken) = inr (refl, λ n. refl)
leaf_or_not (Match arm) = inr (refl, λ n. refl)

abbrev leaves_from : ℕ → List Node → List (ℕ × ℕ)
leaves_from i nodes = flat_map (λ e. leaf_of e.0 e.1.fill) (enumerate_from i nodes)

abbrev AreFrom : ℕ → List (ℕ × ℕ) → Type 0
AreFrom k leaves = map (λ e. e.0) leaves ≡ range_with_len k (length leaves)

counted_cons : (x : Node) (xs : List Node) (n : ℕ) → leaf_count (x ∷ xs) (suc n) ≡ cond (is_leaf x.fill) 1 0 + leaf_count xs n
counted_cons x xs n = sum_by-cons (λ (node : Node). cond (is_leaf node.fill) 1 0) x (take n xs)

abbrev Follow : List Node → ℕ → Type 0
Follow nodes k = (n act : ℕ) → IsLeafOf nodes act n → act ≡ k + leaf_count nodes n

module _ (x : Node) (xs : List Node) (i k : ℕ) where
  under_leaf : (a : ℕ) → x.fill ≡ Leaf a → AreFrom k (leaves_from i (x ∷ xs)) → (a ≡ k) × AreFrom (k + 1) (leaves_from (i + 1) xs)
  under_leaf a is numbers =
      let here : AreFrom k ((a, i) ∷ leaves_from (i + 1) xs) = subst (λ (fill : Fill). AreFrom k (leaf_of i fill ++ leaves_from (i + 1) xs)) is numbers in
      (cc here, cc here)

  under_other : ((n : ℕ) → leaf_of n x.fill ≡ []) → AreFrom k (leaves_from i (x ∷ xs)) → AreFrom k (leaves_from (i + 1) xs)
  under_other none numbers = subst (λ (own : List (ℕ × ℕ)). AreFrom k (own ++ leaves_from (i + 1) xs)) (none i) numbers

  first_leaf : (act : ℕ) → IsLeafOf (x ∷ xs) act 0 → x.fill ≡ Leaf act
  first_leaf act leaf = ap (λ (n : Node). n.fill) (same_some x leaf.node leaf.is) ∙ leaf.of_act

  later_leaf : (act n : ℕ) → IsLeafOf (x ∷ xs) act (suc n) → IsLeafOf xs act n
  later_leaf act n leaf = record { node = leaf.node; is = leaf.is; of_act = leaf.of_act }

  follow_leaf : (a : ℕ) → x.fill ≡ Leaf a → a ≡ k → Follow xs (k + 1) → Follow (x ∷ xs) k
  follow_leaf a is first rest zero act leaf =
      let same : Leaf a ≡ Leaf act = sym is ∙ first_leaf act leaf in
      let one : a ≡ act = cc same in
      omega (arith, one, first)
  follow_leaf a is first rest (suc n) act leaf =
      let later = rest n act (later_leaf act n leaf) in
      let count : leaf_count (x ∷ xs) (suc n) ≡ 1 + leaf_count xs n = subst (λ (fill : Fill). leaf_count (x ∷ xs) (suc n) ≡ cond (is_leaf fill) 1 0 + leaf_count xs n) is (counted_cons x xs n) in
      omega (arith, later, count)

  follow_other : is_leaf x.fill ≡ false → Follow xs k → Follow (x ∷ xs) k
  follow_other not rest zero act leaf =
      let other : true ≡ false = sym (ap is_leaf (first_leaf act leaf)) ∙ not in
      absurd cc
  follow_other not rest (suc n) act leaf =
      let later = rest n act (later_leaf act n leaf) in
      let count : leaf_count (x ∷ xs) (suc n) ≡ 0 + leaf_count xs n = subst (λ b. leaf_count (x ∷ xs) (suc n) ≡ cond b 1 0 + leaf_count xs n) not (counted_cons x xs n) in
      omega (arith, later, count)

numbered_from : (nodes : List Node) (i k : ℕ) → AreFrom k (leaves_from i nodes) → Follow nodes k
numbered_from [] i k numbers n act leaf = let none = leaf.is in absurd cc
numbered_from (x ∷ xs) i k numbers n act leaf = go (λ k numbers. numbered_from xs (i + 1) k numbers) (leaf_or_not x.fill)
  where
    go : ((k : ℕ) → AreFrom k (leaves_from (i + 1) xs) → Follow xs k) → ((a : ℕ) × (x.fill ≡ Leaf a)) ⊎ ((is_leaf x.fill ≡ false) × ((n : ℕ) → leaf_of n x.fill ≡ [])) → act ≡ k + leaf_count (x ∷ xs) n
    go rest (inl own) = let parts = under_leaf x xs i k own.0 own.1 numbers in follow_leaf x xs i k own.0 own.1 parts.0 (rest (k + 1) parts.1) n act leaf
    go rest (inr none) = follow_other x xs i k none.0 (rest k (under_other x xs i k none.1 numbers)) n act leaf

pub built_numbered : (s : Scenario) → IsBuilt s → AreNodesNumbered s.nodes
built_numbered s built =
    record {
      preorder = built.preorder;
      parents = built.linked.preorder;
      leaves = λ n act leaf. numbered_from s.nodes 0 0 built.leaves.numbers n act leaf ∙ omega arith;
    }

-- what stands behind by the tables is what stands behind
pub stands_before : (s : Scenario) (a b : ℕ) → IsBuilt s → StandsBefore s.nodes a b ↔ Before s a b
stands_before s a b built = (there, back)
  where
    there : StandsBefore s.nodes a b → Before s a b
    there h =
        let behind = h.over.has in
        (before_by_leaves s a b h.leaf behind.other built.linked.one_leaf h.of_act behind.of_act).0
        (record { top = h.over.top; under = h.over.under; has = behind.awaited })

    back : Before s a b → StandsBefore s.nodes a b
    back h =
        let first = h.earlier.a_inside in
        let second = h.earlier.b_inside in
        let of_a = leaf_inside s.nodes h.earlier.earlier a first in
        let of_b = leaf_inside s.nodes h.earlier.later b second in
        let over = (before_by_leaves s a b first.leaf second.leaf built.linked.one_leaf of_a of_b).1 h in
        record { leaf = first.leaf; of_act = of_a; over = record { top = over.top; under = over.under; has = record { other = second.leaf; of_act = of_b; awaited = over.has } } }
