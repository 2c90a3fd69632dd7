-- Nodes in preorder: those under a node are one range of numbers.
use Rattle.std.proofs.Common.{◌≡◌, ◌⊎◌, inl, inr, ◌<◌, ◌≤◌, ℕ, zero, suc, List, Some, slice_get, refl, sym, subst, ◌∙◌, arith}
use Rattle.std.proofs.lemmas.Bool.{cases_lt}
use Rattle.pst_scen.specs.declared.tree.Node.{Node}
use Rattle.pst_scen.specs.Tree.{IsChild, StandsUnder, AtTop, Below}
use Rattle.pst_scen.specs.Laws.{IsPreorder}
use Rattle.pst_scen.specs.Scenarios.{AreInPreorder}
use Rattle.pst_nodes.specs.Tables.{IsEnd}
use Rattle.pst_nodes.proofs.Climbs.{same_some, parent_less, under_up, under_le, one_child}

same_node : (nodes : List Node) (n : ℕ) (x y : Node) → slice_get nodes n ≡ Some x → slice_get nodes n ≡ Some y → x ≡ y
same_node nodes n x y one other = same_some x y (sym one ∙ other)

-- the parent of the node behind a node is that node, or stands over it
parent_over : (nodes : List Node) (n parent : ℕ) → AreInPreorder nodes → IsChild nodes (suc n) parent → StandsUnder nodes parent n
parent_over nodes n parent preorder child =
    let below = preorder.below n child.node child.is in
    let same : Some below.0 ≡ Some parent = sym below.1 ∙ child.in_parent in
    subst (λ (p : ℕ). StandsUnder nodes p n) (same_some below.0 parent same) below.2

-- a node over another is over those between
pub contiguous : (nodes : List Node) (top k n : ℕ) → AreInPreorder nodes → StandsUnder nodes top n → top ≤ k → k ≤ n → StandsUnder nodes top k
contiguous nodes top k zero preorder under low high =
    let same : zero ≡ k = omega (arith, high) in
    subst (λ (m : ℕ). StandsUnder nodes top m) same under
contiguous nodes top k (suc n) preorder under low high = go (λ over less. contiguous nodes top k n preorder over low less) (cases_lt k (suc n))
  where
    above : (m : ℕ) → m ≡ suc n → StandsUnder nodes top m → top < m → StandsUnder nodes top n
    above _ same AtTop less = absurd (omega (arith, less))
    above _ same (Below m parent over child) less =
        under_up nodes top parent n over (parent_over nodes n parent preorder (subst (λ (x : ℕ). IsChild nodes x parent) same child))

    go : (StandsUnder nodes top n → k ≤ n → StandsUnder nodes top k) → (k < suc n) ⊎ (suc n ≤ k) → StandsUnder nodes top k
    go before (inl less) = before (above (suc n) refl under (omega (arith, low, less))) (omega (arith, less))
    go before (inr more) =
        let same : suc n ≡ k = omega (arith, more, high) in
        subst (λ (m : ℕ). StandsUnder nodes top m) same under

-- a node under another is that one, or stands under one directly in it
pub child_between : (nodes : List Node) (top n : ℕ) → StandsUnder nodes top n → (n ≡ top) ⊎ ((child : ℕ) × IsChild nodes child top × StandsUnder nodes child n)
child_between nodes top _ AtTop = inl refl
child_between nodes top _ (Below n parent over child) = go (child_between nodes top parent over)
  where
    go : (parent ≡ top) ⊎ ((c : ℕ) × IsChild nodes c top × StandsUnder nodes c parent) → (n ≡ top) ⊎ ((c : ℕ) × IsChild nodes c top × StandsUnder nodes c n)
    go (inl same) = inr (n, subst (λ (p : ℕ). IsChild nodes n p) same child, AtTop)
    go (inr between) = inr (between.0, between.1, Below n parent between.2 child)

-- what stands in the parent behind a node and those under it, stands under a later child
module _ (nodes : List Node) (preorder : AreInPreorder nodes) (parents : IsPreorder nodes) (n parent end last : ℕ) (child : IsChild nodes n parent) (is_end : IsEnd nodes n end) (is_last : IsEnd nodes parent last) where
  pub later_behind : (later m : ℕ) → IsChild nodes later parent → n < later → StandsUnder nodes later m → (end ≤ m) × (m < last)
  later_behind later m of_parent order under = (behind (cases_lt m end), is_last.behind m (under_up nodes parent later m (Below later parent AtTop of_parent) under))
    where
      behind : (m < end) ⊎ (end ≤ m) → end ≤ m
      behind (inr more) = more
      behind (inl less) =
          let low : later ≤ m = under_le nodes later m parents under in
          let same : n ≡ later = one_child nodes parent n later m parents child of_parent (is_end.under m (omega (arith, order, low)) less) under in
          absurd (omega (arith, same, order))

  pub behind_later : (m : ℕ) → end ≤ m → m < last → (later : ℕ) × IsChild nodes later parent × (n < later) × StandsUnder nodes later m
  behind_later m low high = go (child_between nodes parent m (is_last.under m (omega (arith, first, own, low)) high))
    where
      first : parent < n
      first = parent_less nodes n parent parents child

      own : n < end
      own = is_end.behind n AtTop

      after : (later : ℕ) → IsChild nodes later parent → StandsUnder nodes later m → (n < later) ⊎ (later ≤ n) → n < later
      after later of_parent under (inl less) = less
      after later of_parent under (inr more) =
          let over : StandsUnder nodes later n = contiguous nodes later n m preorder under more (omega (arith, own, low)) in
          let same : n ≡ later = one_child nodes parent n later n parents child of_parent AtTop over in
          let again : StandsUnder nodes n m = subst (λ (x : ℕ). StandsUnder nodes x m) (sym same) under in
          let less : m < end = is_end.behind m again in
          absurd (omega (arith, less, low))

      go : (m ≡ parent) ⊎ ((later : ℕ) × IsChild nodes later parent × StandsUnder nodes later m) → (later : ℕ) × IsChild nodes later parent × (n < later) × StandsUnder nodes later m
      go (inl same) = absurd (omega (arith, same, first, own, low))
      go (inr between) = (between.0, between.1, after between.0 between.1 between.2 (cases_lt n between.0), between.2)
