-- Which actions' leaves stand in other branches of a block: two ranges of numbers.
use Rattle.std.proofs.Common.{◌≡◌, ◌⊎◌, inl, inr, ⊎_elim, ◌<◌, ◌≤◌, ◌+◌, ℕ, List, length, sym, subst, arith}
use Rattle.std.proofs.lemmas.Bool.{cases_lt, cases_order}
use Rattle.pst_scen.specs.declared.rows.Rows.{Rows}
use Rattle.pst_scen.specs.declared.scenario.Scenario.{Scenario}
use Rattle.pst_scen.specs.declared.tree.Node.{Node}
use Rattle.pst_scen.specs.Tree.{IsChild, StandsUnder, AtTop}
use Rattle.pst_scen.specs.Laws.{HasOneLeafEach}
use Rattle.pst_scen.specs.Plans.{StandParallel}
use Rattle.pst_scen.specs.Rows.{Has}
use Rattle.pst_nodes.specs.Beside.{IsBesideAt, AreBeside, BoundsRow}
use Rattle.pst_nodes.specs.Over.{IsLeafOf, Over, IsParallelBlock}
use Rattle.pst_nodes.specs.Tables.{AreNodesNumbered, IsEnd, AreLeaves, leaf_count}
use Rattle.pst_nodes.proofs.Awaits.{leaf_within, leaf_inside, parallel_by_leaves}
use Rattle.pst_nodes.proofs.BehindRange.{same_leaf}
use Rattle.pst_nodes.proofs.Climbs.{one_parent, up, one_child, parent_less, under_le, over_root}
use Rattle.pst_nodes.proofs.Leaves.{leaf_counted, leaves_grow}
use Rattle.pst_nodes.proofs.Preorder.{contiguous, later_behind}

module _ (nodes : List Node) (numbered : AreNodesNumbered nodes) (n block : ℕ) (child : IsChild nodes n block) where
  -- the block of which a node is a branch is its parent
  pub beside_block : (b : ℕ) → IsBesideAt nodes n b → IsParallelBlock nodes block
  beside_block b h = subst (λ (p : ℕ). IsParallelBlock nodes p) (one_parent nodes n h.beside.block block h.beside.is_child child) h.beside.is_block

  -- what stands under an earlier branch stands between the block and the node
  earlier_between : (branch other : ℕ) → IsChild nodes branch block → branch < n → StandsUnder nodes branch other → (block ≤ other) × (other < n)
  earlier_between branch other of_block order under = (omega (arith, first, low), before (cases_lt other n))
    where
      first : block < branch
      first = parent_less nodes branch block numbered.parents of_block

      low : branch ≤ other
      low = under_le nodes branch other numbered.parents under

      before : (other < n) ⊎ (n ≤ other) → other < n
      before (inl less) = less
      before (inr more) =
          let over : StandsUnder nodes branch n = contiguous nodes branch n other numbered.preorder under (omega (arith, order)) more in
          let same : n ≡ branch = one_child nodes block n branch n numbered.parents child of_block AtTop over in
          absurd (omega (arith, same, order))

  -- how a leaf between two nodes is numbered
  pub numbered_between : (low high b other : ℕ) → IsLeafOf nodes b other → high ≤ length nodes → (low ≤ other) × (other < high) → (leaf_count nodes low ≤ b) × (b < leaf_count nodes high)
  numbered_between low high b other of_act high_in place =
      let from = place.0 in
      let to = place.1 in
      let within = leaf_within nodes b other of_act in
      let is : b ≡ leaf_count nodes other = numbered.leaves other b of_act in
      let first : leaf_count nodes low ≤ leaf_count nodes other = leaves_grow nodes low other from (omega (arith, within)) in
      let next : leaf_count nodes (other + 1) ≤ leaf_count nodes high = leaves_grow nodes (other + 1) high (omega (arith, to)) high_in in
      let one : leaf_count nodes (other + 1) ≡ leaf_count nodes other + 1 = leaf_counted nodes b other of_act in
      (omega (arith, is, first), omega (arith, is, next, one))

  pub beside_range : (end last : ℕ) → IsEnd nodes n end → IsEnd nodes block last → n < length nodes → last ≤ length nodes → (b : ℕ) → IsBesideAt nodes n b
      → ((leaf_count nodes block ≤ b) × (b < leaf_count nodes n)) ⊎ ((leaf_count nodes end ≤ b) × (b < leaf_count nodes last))
  beside_range end last is_end is_last n_in last_in b h = place (cases_order h.beside.other n)
    where
      of_block : IsChild nodes h.beside.other block
      of_block = subst (λ (p : ℕ). IsChild nodes h.beside.other p) (one_parent nodes n h.beside.block block h.beside.is_child child) h.beside.other_child

      earlier : h.beside.other < n → (leaf_count nodes block ≤ b) × (b < leaf_count nodes n)
      earlier less = numbered_between block n b h.other h.of_act (omega (arith, n_in)) (earlier_between h.beside.other h.other of_block less h.beside.under)

      later : n < h.beside.other → (leaf_count nodes end ≤ b) × (b < leaf_count nodes last)
      later more =
          numbered_between end last b h.other h.of_act last_in (later_behind nodes numbered.preorder numbered.parents n block end last child is_end is_last h.beside.other h.other of_block more h.beside.under)

      place : (h.beside.other ≡ n) ⊎ ((h.beside.other < n) ⊎ (n < h.beside.other)) → ((leaf_count nodes block ≤ b) × (b < leaf_count nodes n)) ⊎ ((leaf_count nodes end ≤ b) × (b < leaf_count nodes last))
      place (inl same) = absurd (h.beside.different (sym same))
      place (inr (inl less)) = inl (earlier less)
      place (inr (inr more)) = inr (later more)

-- CLIMBS

module _ (nodes : List Node) (rows : Rows) (a : ℕ) where
  -- a bound for what is still to come, or one that stands
  abbrev pub Rest : ℕ → ℕ → ℕ → Type 0
  Rest leaf at bound = (b : ℕ) → b < rows.size → Has rows a b → Over nodes (λ n. IsBesideAt nodes n b) leaf → Over nodes (λ n. IsBesideAt nodes n b) at ⊎ ((bound ≤ a) × (bound ≤ b))

  pub rest_on : (leaf at parent old new : ℕ) → IsChild nodes at parent → new ≤ old → BoundsRow rows a new (IsBesideAt nodes at) → Rest leaf at old → Rest leaf parent new
  rest_on leaf at parent old new child lower here rest b b_in has over = ⊎_elim still (λ h. inr (stands h)) (rest b b_in has over)
    where
      stands : (old ≤ a) × (old ≤ b) → (new ≤ a) × (new ≤ b)
      stands h = let first = h.0 in let second = h.1 in (omega (arith, first, lower), omega (arith, second, lower))

      still : Over nodes (λ n. IsBesideAt nodes n b) at → Over nodes (λ n. IsBesideAt nodes n b) parent ⊎ ((new ≤ a) × (new ≤ b))
      still above =
          ⊎_elim (λ same. inr (here b b_in has (subst (λ (n : ℕ). IsBesideAt nodes n b) same above.has))) (λ under. inl (record { top = above.top; under = under; has = above.has }))
          (up nodes at parent above.top child above.under)

  pub rest_done : (leaf at bound : ℕ) → ((p : ℕ) → IsChild nodes at p → ⊥) → Rest leaf at bound → BoundsRow rows a bound (λ b. Over nodes (λ n. IsBesideAt nodes n b) leaf)
  rest_done leaf at bound none rest b b_in has over =
      ⊎_elim (λ above. absurd (over_root nodes (λ n. IsBesideAt nodes n b) at none (λ h. none h.beside.block h.beside.is_child) above)) (λ h. h) (rest b b_in has over)

  -- the same for the action whose leaf it is
  pub of_leaf : (leaf bound : ℕ) → AreNodesNumbered nodes → IsLeafOf nodes a leaf → BoundsRow rows a bound (λ b. Over nodes (λ n. IsBesideAt nodes n b) leaf) → BoundsRow rows a bound (AreBeside nodes a)
  of_leaf leaf bound numbered is_leaf bounds b b_in has h =
      bounds b b_in has (subst (λ (m : ℕ). Over nodes (λ n. IsBesideAt nodes n b) m) (same_leaf nodes a h.leaf leaf numbered h.of_act is_leaf) h.over)

  -- an action without a leaf stands beside none
  pub leafless : (leaves : List ℕ) (bound : ℕ) → AreNodesNumbered nodes → AreLeaves nodes leaves (length nodes) → length leaves ≤ a → BoundsRow rows a bound (AreBeside nodes a)
  leafless leaves bound numbered are more b b_in has h =
      let at : a ≡ leaf_count nodes h.leaf = numbered.leaves h.leaf a h.of_act in
      let within : h.leaf < length nodes = leaf_within nodes a h.leaf h.of_act in
      let step : leaf_count nodes (h.leaf + 1) ≡ leaf_count nodes h.leaf + 1 = leaf_counted nodes a h.leaf h.of_act in
      let upper = leaves_grow nodes (h.leaf + 1) (length nodes) (omega (arith, within)) (omega arith) in
      let many = are.many in
      absurd (omega (arith, at, step, upper, many, more))

-- actions in different branches of one parallel block
pub stand_beside : (s : Scenario) (a b : ℕ) → HasOneLeafEach s.nodes → StandParallel s a b → AreBeside s.nodes a b
stand_beside s a b one h =
    let a_leaf = leaf_inside s.nodes h.a_branch a h.a_inside in
    let b_leaf = leaf_inside s.nodes h.b_branch b h.b_inside in
    let over = (parallel_by_leaves s a b h.a_inside.leaf h.b_inside.leaf one a_leaf b_leaf).1 h in
    record {
      leaf = h.a_inside.leaf;
      of_act = a_leaf;
      over = record { top = over.top; under = over.under; has = record { other = h.b_inside.leaf; of_act = b_leaf; beside = over.has } };
    }

-- one row more
module _ (rows : Rows) (R : ℕ → ℕ → Type 0) where
  abbrev pub BoundsBelow : ℕ → ℕ → Type 0
  BoundsBelow to bound = (a : ℕ) → a < to → BoundsRow rows a bound (R a)

  pub row_more : (to old new : ℕ) → BoundsBelow to old → new ≤ old → BoundsRow rows to new (R to) → BoundsBelow (to + 1) new
  row_more to old new before lower here a below b b_in has r =
      ⊎_elim (λ less. let h = before a less b b_in has r in let first = h.0 in let second = h.1 in (omega (arith, first, lower), omega (arith, second, lower)))
      (λ more. let same : to ≡ a = omega (arith, more, below) in subst (λ (x : ℕ). BoundsRow rows x new (R x)) same here b b_in has r) (cases_lt a to)
