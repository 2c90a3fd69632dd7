-- Which actions' leaves stand behind a node: one range of numbers.
use Rattle.std.proofs.Common.{◌≡◌, ◌⊎◌, inl, inr, ◌<◌, ◌≤◌, ◌+◌, ℕ, List, length, get_or, sym, subst, arith}
use Rattle.std.proofs.lemmas.Bool.{cases_lt}
use Rattle.pst_scen.specs.declared.rows.Rows.{Rows}
use Rattle.pst_scen.specs.declared.tree.Node.{Node}
use Rattle.pst_scen.specs.Tree.{IsChild, StandsUnder, IsSequence}
use Rattle.pst_nodes.specs.Over.{IsLeafOf, Over, IsFree}
use Rattle.pst_square.specs.Squares.{Adds, IsInRow}
use Rattle.pst_nodes.specs.Tables.{AreNodesNumbered, IsEnd, AreLeaves, IsBehind, StandsBefore, leaf_count}
use Rattle.pst_square.proofs.Adding.{adds_none, adds_as, adds_then}
use Rattle.pst_nodes.proofs.Climbs.{one_parent, up, over_here, over_up, over_root}
use Rattle.pst_nodes.proofs.Awaits.{leaf_within}
use Rattle.pst_nodes.proofs.Leaves.{leaf_counted, leaves_grow}
use Rattle.pst_nodes.proofs.Preorder.{later_behind, behind_later}

module _ (nodes : List Node) (leaf n sequence : ℕ) (child : IsChild nodes n sequence) where
  pub behind_sequence : (d : ℕ) → IsBehind nodes leaf n d → IsSequence nodes sequence
  behind_sequence d h = subst (λ (q : ℕ). IsSequence nodes q) (one_parent nodes n h.awaited.sequence sequence h.awaited.is_child child) h.awaited.is_sequence

  pub behind_kept : (d : ℕ) → IsBehind nodes leaf n d → Over nodes (IsFree nodes sequence) leaf → ⊥
  behind_kept d h = subst (λ (q : ℕ). Over nodes (IsFree nodes q) leaf → ⊥) (one_parent nodes n h.awaited.sequence sequence h.awaited.is_child child) h.awaited.kept

  module _ (numbered : AreNodesNumbered nodes) (leaves : List ℕ) (are : AreLeaves nodes leaves (length nodes)) (end last : ℕ) (is_end : IsEnd nodes n end) (is_last : IsEnd nodes sequence last) (end_in : end ≤ length nodes) (last_in : last ≤ length nodes) where
    pub behind_range : (d : ℕ) → IsBehind nodes leaf n d → (leaf_count nodes end ≤ d) × (d < leaf_count nodes last)
    behind_range d h =
        let same : h.awaited.sequence ≡ sequence = one_parent nodes n h.awaited.sequence sequence h.awaited.is_child child in
        let later : IsChild nodes h.awaited.later sequence = subst (λ (q : ℕ). IsChild nodes h.awaited.later q) same h.awaited.later_child in
        let place = later_behind nodes numbered.preorder numbered.parents n sequence end last child is_end is_last h.awaited.later h.other later h.awaited.order h.awaited.under in
        let low = place.0 in
        let high = place.1 in
        let within = leaf_within nodes d h.other h.of_act in
        let is : d ≡ leaf_count nodes h.other = numbered.leaves h.other d h.of_act in
        let first : leaf_count nodes end ≤ leaf_count nodes h.other = leaves_grow nodes end h.other low (omega (arith, within)) in
        let next : leaf_count nodes (h.other + 1) ≤ leaf_count nodes last = leaves_grow nodes (h.other + 1) last (omega (arith, high)) last_in in
        let one : leaf_count nodes (h.other + 1) ≡ leaf_count nodes h.other + 1 = leaf_counted nodes d h.other h.of_act in
        (omega (arith, is, first), omega (arith, is, next, one))

    -- the leaf of an action in the range stands behind the node
    leaf_behind : (d other : ℕ) → IsLeafOf nodes d other → leaf_count nodes end ≤ d → d < leaf_count nodes last → (end ≤ other) × (other < last)
    leaf_behind d other of_act low high = (from (cases_lt other end), below (cases_lt other last))
      where
        from : (other < end) ⊎ (end ≤ other) → end ≤ other
        from (inr more) = more
        from (inl less) =
            let upper = leaves_grow nodes (other + 1) end (omega (arith, less)) end_in in
            let at : d ≡ leaf_count nodes other = numbered.leaves other d of_act in
            let step : leaf_count nodes (other + 1) ≡ leaf_count nodes other + 1 = leaf_counted nodes d other of_act in
            absurd (omega (arith, upper, at, step, low))

        below : (other < last) ⊎ (last ≤ other) → other < last
        below (inl less) = less
        below (inr more) =
            let here : other < length nodes = leaf_within nodes d other of_act in
            let upper = leaves_grow nodes last other more (omega (arith, here)) in
            let at : d ≡ leaf_count nodes other = numbered.leaves other d of_act in
            absurd (omega (arith, upper, at, high))

    pub range_behind : IsSequence nodes sequence → (Over nodes (IsFree nodes sequence) leaf → ⊥) → (d : ℕ) → leaf_count nodes end ≤ d → d < leaf_count nodes last → IsBehind nodes leaf n d
    range_behind is_sequence kept d low high =
        let many = are.many in
        let upper = leaves_grow nodes last (length nodes) last_in (omega arith) in
        let of_act : IsLeafOf nodes d (get_or leaves d 0) = are.each d (omega (arith, high, upper, many)) in
        let place = leaf_behind d (get_or leaves d 0) of_act low high in
        let later = behind_later nodes numbered.preorder numbered.parents n sequence end last child is_end is_last (get_or leaves d 0) place.0 place.1 in
        record {
          other = get_or leaves d 0;
          of_act = of_act;
          awaited = record { sequence = sequence; is_sequence = is_sequence; is_child = child; later = later.0; later_child = later.1; order = later.2; under = later.3; kept = kept };
        }

-- an action has one leaf
pub same_leaf : (nodes : List Node) (act m n : ℕ) → AreNodesNumbered nodes → IsLeafOf nodes act m → IsLeafOf nodes act n → m ≡ n
same_leaf nodes act m n numbered first second = go (cases_lt m n) (cases_lt n m)
  where
    apart : (x y : ℕ) → IsLeafOf nodes act x → IsLeafOf nodes act y → x < y → ⊥
    apart x y one other less =
        let at : act ≡ leaf_count nodes x = numbered.leaves x act one in
        let there : act ≡ leaf_count nodes y = numbered.leaves y act other in
        let step : leaf_count nodes (x + 1) ≡ leaf_count nodes x + 1 = leaf_counted nodes act x one in
        let within : y < length nodes = leaf_within nodes act y other in
        let upper = leaves_grow nodes (x + 1) y (omega (arith, less)) (omega (arith, within)) in
        omega (arith, at, there, step, upper)

    go : (m < n) ⊎ (n ≤ m) → (n < m) ⊎ (m ≤ n) → m ≡ n
    go (inl less) either = absurd (apart m n first second less)
    go (inr more) (inl less) = absurd (apart n m second first less)
    go (inr more) (inr upper) = omega (arith, more, upper)

-- one node of a climb more
module _ (nodes : List Node) (a leaf : ℕ) where
  abbrev Here : ℕ → ℕ → ℕ → Type 0
  Here at c d = IsBehind nodes leaf at d

  abbrev Above : ℕ → ℕ → ℕ → Type 0
  Above at c d = Over nodes (λ n. IsBehind nodes leaf n d) at

  pub climbed : (first middle last : Rows) (at parent : ℕ) → IsChild nodes at parent → Adds first middle (IsInRow (λ c d. IsBehind nodes leaf at d) a) → Adds middle last (IsInRow (λ c d. Over nodes (λ n. IsBehind nodes leaf n d) parent) a) → Adds first last (IsInRow (λ c d. Over nodes (λ n. IsBehind nodes leaf n d) at) a)
  climbed first middle last at parent child one two =
      adds_as first last (λ c d. IsInRow (Here at) a c d ⊎ IsInRow (Above parent) a c d) (IsInRow (Above at) a)
      (adds_then first middle last (IsInRow (Here at) a) (IsInRow (Above parent) a) one two) (λ c d c_in d_in. to c d) (λ c d c_in d_in. from c d)
    where
      to : (c d : ℕ) → IsInRow (Here at) a c d ⊎ IsInRow (Above parent) a c d → IsInRow (Above at) a c d
      to c d (inl h) = record { first = h.first; related = over_here nodes (λ n. IsBehind nodes leaf n d) at h.related }
      to c d (inr h) = record { first = h.first; related = over_up nodes (λ n. IsBehind nodes leaf n d) at parent child h.related }

      from : (c d : ℕ) → IsInRow (Above at) a c d → IsInRow (Here at) a c d ⊎ IsInRow (Above parent) a c d
      from c d h = go (up nodes at parent h.related.top child h.related.under)
        where
          go : (h.related.top ≡ at) ⊎ StandsUnder nodes h.related.top parent → IsInRow (Here at) a c d ⊎ IsInRow (Above parent) a c d
          go (inl same) = inl (record { first = h.first; related = subst (λ (n : ℕ). IsBehind nodes leaf n d) same h.related.has })
          go (inr above) = inr (record { first = h.first; related = record { top = h.related.top; under = above; has = h.related.has } })

  pub at_root : (rows : Rows) (at : ℕ) → ((p : ℕ) → IsChild nodes at p → ⊥) → Adds rows rows (IsInRow (λ c d. Over nodes (λ n. IsBehind nodes leaf n d) at) a)
  at_root rows at none =
      adds_none rows (IsInRow (Above at) a) (λ c d h. over_root nodes (λ n. IsBehind nodes leaf n d) at none (λ has. none has.awaited.sequence has.awaited.is_child) h.related)

-- where an action's leaf is known, its row is what stands behind it
pub before_row : (nodes : List Node) (old new : Rows) (a leaf : ℕ) → AreNodesNumbered nodes → IsLeafOf nodes a leaf → Adds old new (IsInRow (λ c d. Over nodes (λ n. IsBehind nodes leaf n d) leaf) a) → Adds old new (IsInRow (StandsBefore nodes) a)
before_row nodes old new a leaf numbered is_leaf added =
    adds_as old new (IsInRow (λ c d. Over nodes (λ n. IsBehind nodes leaf n d) leaf) a) (IsInRow (StandsBefore nodes) a) added
    (λ c d c_in d_in h. record { first = h.first; related = record { leaf = leaf; of_act = subst (λ (x : ℕ). IsLeafOf nodes x leaf) (sym h.first) is_leaf; over = h.related } })
    (λ c d c_in d_in h. record { first = h.first; related = subst (λ (m : ℕ). Over nodes (λ n. IsBehind nodes m n d) m) (same_leaf nodes a h.related.leaf leaf numbered (subst (λ (x : ℕ). IsLeafOf nodes x h.related.leaf) h.first h.related.of_act) is_leaf) h.related.over })

-- an action without a leaf has no row
pub no_row : (nodes : List Node) (old : Rows) (leaves : List ℕ) (a : ℕ) → AreNodesNumbered nodes → AreLeaves nodes leaves (length nodes) → length leaves ≤ a → Adds old old (IsInRow (StandsBefore nodes) a)
no_row nodes old leaves a numbered are more =
    adds_none old (IsInRow (StandsBefore nodes) a)
    (λ c d h.
    let leaf = h.related.leaf in
    let of_act = h.related.of_act in
    let at : c ≡ leaf_count nodes leaf = numbered.leaves leaf c of_act in
    let within : leaf < length nodes = leaf_within nodes c leaf of_act in
    let step : leaf_count nodes (leaf + 1) ≡ leaf_count nodes leaf + 1 = leaf_counted nodes c leaf of_act in
    let upper = leaves_grow nodes (leaf + 1) (length nodes) (omega (arith, within)) (omega arith) in
    let many = are.many in
    let same = h.first in
    omega (arith, at, step, upper, many, same, more))
