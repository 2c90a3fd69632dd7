-- Leaves and how many stand before a node.
use Rattle.std.proofs.Common.{◌≡◌, ◌⊎◌, inl, inr, ◌<◌, ◌≤◌, ◌+◌, ◌++◌, ◌∷◌, [], ℕ, zero, suc, List, Bool, length, get_or, true, false, refl, sym, subst, ap, ◌∙◌, arith}
use Rattle.std.proofs.lemmas.Bool.{cases_lt}
use Rattle.std.proofs.lemmas.Grind.{common_steps}
use Rattle.std.proofs.lemmas.Option.{slice_get_within, slice_get-get_or}
use Rattle.std.proofs.lemmas.List.{get_or_push, length_push, get_or_append_left}
use Rattle.pst_scen.specs.declared.tree.Node.{Node}
use Rattle.pst_scen.specs.declared.tree.Fill.{Fill}
use Rattle.pst_scen.specs.declared.tree.Fill.TheVariants.{Compound, Leaf, Sequence, Parallel, Schedule, Joined, Select, Repeat, Turn, If, Match}
use Rattle.pst_nodes.specs.Over.{IsLeafOf}
use Rattle.pst_nodes.proofs.Climbs.{same_some}
use Rattle.pst_nodes.specs.Tables.{is_leaf, leaf_count, AreNodesNumbered, AreLeaves}

pub leaf_fill : (fill : Fill) → is_leaf fill ≡ true → (act : ℕ) × (fill ≡ Leaf act)
leaf_fill (Leaf act) is = (act, refl)
leaf_fill (Compound action instance fields) is = absurd cc
leaf_fill Sequence is = absurd cc
leaf_fill Parallel is = absurd cc
leaf_fill Schedule is = absurd cc
leaf_fill (Joined parallel joined) is = absurd cc
leaf_fill (Select branch) is = absurd cc
leaf_fill Repeat is = absurd cc
leaf_fill (Turn index) is = absurd cc
leaf_fill (If taken) is = absurd cc
leaf_fill (Match arm) is = absurd cc

pub leaf_more : (nodes : List Node) (n : ℕ) (d : Node) → n < length nodes → is_leaf (get_or nodes n d).fill ≡ true → leaf_count nodes (n + 1) ≡ leaf_count nodes n + 1
leaf_more nodes n d within is = grind (arith, common_steps)

pub leaf_same : (nodes : List Node) (n : ℕ) (d : Node) → n < length nodes → is_leaf (get_or nodes n d).fill ≡ false → leaf_count nodes (n + 1) ≡ leaf_count nodes n
leaf_same nodes n d within is = grind (arith, common_steps)

-- a leaf of the list after the ones before it
pub leaf_pushed : (nodes : List Node) (leaves : List ℕ) (n : ℕ) (d : Node) → AreNodesNumbered nodes → n < length nodes → AreLeaves nodes leaves n → is_leaf (get_or nodes n d).fill ≡ true → AreLeaves nodes (leaves ++ n ∷ []) (n + 1)
leaf_pushed nodes leaves n d numbered within before is =
    record { many = length_push leaves n ∙ ap (λ (k : ℕ). k + 1) before.many ∙ sym (leaf_more nodes n d within is); each = λ act below. each act below (cases_lt act (length leaves)) }
  where
    own : (act : ℕ) × IsLeafOf nodes act n
    own = let fill = leaf_fill (get_or nodes n d).fill is in (fill.0, record { node = get_or nodes n d; is = slice_get-get_or nodes n d within; of_act = fill.1 })

    at : own.0 ≡ length leaves
    at = numbered.leaves n own.0 own.1 ∙ sym before.many

    each : (act : ℕ) → act < length (leaves ++ n ∷ []) → (act < length leaves) ⊎ (length leaves ≤ act) → IsLeafOf nodes act (get_or (leaves ++ n ∷ []) act 0)
    each act below (inl less) = subst (λ (m : ℕ). IsLeafOf nodes act m) (sym (get_or_append_left leaves (n ∷ []) 0 act less)) (before.each act less)
    each act below (inr more) =
        let last : act < length leaves + 1 = subst (λ (k : ℕ). act < k) (length_push leaves n) below in
        let same : length leaves ≡ act = omega (arith, more, last) in
        subst (λ (m : ℕ). IsLeafOf nodes act m) (sym (get_or_push leaves n 0 act same)) (subst (λ (k : ℕ). IsLeafOf nodes k n) (at ∙ same) own.1)

pub leaf_counted : (nodes : List Node) (act n : ℕ) → IsLeafOf nodes act n → leaf_count nodes (n + 1) ≡ leaf_count nodes n + 1
leaf_counted nodes act n leaf =
    let within = slice_get_within nodes n leaf.node leaf.is in
    let node : get_or nodes n leaf.node ≡ leaf.node = same_some (get_or nodes n leaf.node) leaf.node (sym (slice_get-get_or nodes n leaf.node within) ∙ leaf.is) in
    leaf_more nodes n leaf.node within (ap (λ (m : Node). is_leaf m.fill) node ∙ ap is_leaf leaf.of_act)

leaf_step : (nodes : List Node) (n : ℕ) → n < length nodes → leaf_count nodes n ≤ leaf_count nodes (n + 1)
leaf_step [] n within = absurd (omega (arith, within))
leaf_step (d ∷ more) n within = go (is_leaf (get_or (d ∷ more) n d).fill) refl
  where
    go : (b : Bool) → is_leaf (get_or (d ∷ more) n d).fill ≡ b → leaf_count (d ∷ more) n ≤ leaf_count (d ∷ more) (n + 1)
    go true is = let one = leaf_more (d ∷ more) n d within is in omega (arith, one)
    go false is = let same = leaf_same (d ∷ more) n d within is in omega (arith, same)

pub leaves_grow : (nodes : List Node) (m n : ℕ) → m ≤ n → n ≤ length nodes → leaf_count nodes m ≤ leaf_count nodes n
leaves_grow nodes m zero low high = let same : m ≡ zero = omega (arith, low) in subst (λ (k : ℕ). leaf_count nodes m ≤ leaf_count nodes k) same (omega arith)
leaves_grow nodes m (suc n) low high = go (λ less. leaves_grow nodes m n less (omega (arith, high))) (cases_lt m (suc n))
  where
    go : (m ≤ n → leaf_count nodes m ≤ leaf_count nodes n) → (m < suc n) ⊎ (suc n ≤ m) → leaf_count nodes m ≤ leaf_count nodes (suc n)
    go before (inl less) =
        let upper = before (omega (arith, less)) in
        let step = leaf_step nodes n (omega (arith, high)) in
        let one : n + 1 ≡ suc n = omega arith in
        let next : leaf_count nodes (n + 1) ≡ leaf_count nodes (suc n) = ap (leaf_count nodes) one in
        omega (arith, upper, step, next)
    go before (inr more) = let same : m ≡ suc n = omega (arith, low, more) in subst (λ (k : ℕ). leaf_count nodes m ≤ leaf_count nodes k) same (omega arith)
