-- The ways up from nodes, found one node after another.
use Rattle.std.proofs.Common.{◌≡◌, ◌⊎◌, ℕ, ◌+◌, ◌<◌, ◌≤◌, List, [], ◌∷◌, ◌++◌, length, Some, None, refl, sym, ap, ◌∙◌, subst, inl, inr, ⊎_elim, arith}
use Rattle.std.specs.Prelude.{slice_get}
use Rattle.std.specs.Option.{option_and_then}
use Rattle.std.proofs.lemmas.Bool.{cases_lt}
use Rattle.std.proofs.lemmas.Option.{none-some, same_Some, slice_get_within}
use Rattle.pst_scen.specs.declared.tree.Node.{Node}
use Rattle.pst_scen.specs.declared.act.Act.{Act}
use Rattle.pst_scen.specs.Tree.{StandsUnder, AtTop, Below, IsChild}
use Rattle.pst_built.proofs.Parents.{get_more, get_last}
use Rattle.pst_slots.specs.Stated.{parent_of}
use Rattle.pst_touched.specs.Touched.{StandsEarlier, IsOfAct, Has, HasTouched}
use Rattle.pst_touched.specs.Ways.{Keeps, HasWay, HasOld, HasOlds, HasWayOf, HasWaysOf}

-- ---- lists of numbers

pub keeps_push : (list : List ℕ) (n : ℕ) → Keeps list (list ++ n ∷ [])
keeps_push list n = λ k has. (has.0, get_more list (n ∷ []) has.0 k has.1)

pub has_push : (list : List ℕ) (n : ℕ) → Has (list ++ n ∷ []) n
has_push list n = (length list, get_last list n)

-- ---- ways

pub child_of : (nodes : List Node) (n parent : ℕ) → IsChild nodes n parent → parent_of nodes n ≡ Some parent
child_of nodes n parent child = ap (option_and_then (λ (node : Node). node.parent)) child.is ∙ child.in_parent

-- a node is another, or stands below its parent
over : (nodes : List Node) {top n : ℕ} → StandsUnder nodes top n → (top ≡ n) ⊎ ((parent : ℕ) × IsChild nodes n parent × StandsUnder nodes top parent)
over nodes AtTop = inl refl
over nodes (Below n parent under child) = inr (parent, child, under)

above : (nodes : List Node) {top n : ℕ} → StandsUnder nodes top n → (parent : ℕ) → parent_of nodes n ≡ Some parent → (top ≡ n) ⊎ StandsUnder nodes top parent
above nodes {top} {n} under parent is =
    ⊎_elim (λ same. inl same)
    (λ up. inr (subst (λ p. StandsUnder nodes top p) (same_Some up.0 parent (sym (child_of nodes n up.0 up.1) ∙ is)) up.2))
    (over nodes under)

-- a node in no other one, or in none that stands before it
pub way_alone : (nodes : List Node) (list : List ℕ) (n : ℕ) → ((parent : ℕ) → parent_of nodes n ≡ Some parent → n ≤ parent) → Has list n → HasWay nodes list n
way_alone nodes list n none has = λ earlier top under.
    ⊎_elim (λ same. subst (Has list) (sym same) has)
    (λ up.
    let lower = earlier n up.0 up.1.node up.1.is up.1.in_parent in
    let higher = none up.0 (child_of nodes n up.0 up.1) in
    absurd (omega (arith, lower, higher)))
    (over nodes under)

pub way_more : (nodes : List Node) (list : List ℕ) (n parent : ℕ) → parent_of nodes n ≡ Some parent → HasWay nodes list parent → Has list n → HasWay nodes list n
way_more nodes list n parent is way has = λ earlier top under. ⊎_elim (λ same. subst (Has list) (sym same) has) (λ up. way earlier top up) (above nodes under parent is)

pub way_kept : (nodes : List Node) (old new : List ℕ) (n : ℕ) → Keeps old new → HasWay nodes old n → HasWay nodes new n
way_kept nodes old new n keeps way = λ earlier top under. keeps top (way earlier top under)

-- ---- new nodes

module _ (nodes : List Node) (from : ℕ) where
  pub old_alone : (list : List ℕ) (n : ℕ) → from ≤ n → parent_of nodes n ≡ None → HasOld nodes from list n
  old_alone list n l none = λ earlier top lower under.
      ⊎_elim (λ same. absurd (omega (arith, same, lower, l))) (λ up. absurd (none-some up.0 (sym none ∙ child_of nodes n up.0 up.1))) (over nodes under)

  -- in a new node
  pub old_new : (list : List ℕ) (n parent : ℕ) → from ≤ n → parent_of nodes n ≡ Some parent → from ≤ parent → HasOlds nodes from list n → HasOld nodes from list n
  old_new list n parent l is new olds = λ earlier top lower under.
      ⊎_elim (λ same. absurd (omega (arith, same, lower, l)))
      (λ up.
      let same = same_Some up.0 parent (sym (child_of nodes n up.0 up.1) ∙ is) in
      let before : up.0 < n = earlier n up.0 up.1.node up.1.is up.1.in_parent in
      olds up.0 (omega (arith, same, new)) before earlier top lower up.2)
      (over nodes under)

  -- in one whose way is known
  pub old_way : (list : List ℕ) (n parent : ℕ) → from ≤ n → parent_of nodes n ≡ Some parent → HasWay nodes list parent → HasOld nodes from list n
  old_way list n parent l is way = λ earlier top lower under.
      ⊎_elim (λ same. absurd (omega (arith, same, lower, l))) (λ up. way earlier top up) (above nodes under parent is)

  pub olds_kept : (old new : List ℕ) (end : ℕ) → Keeps old new → HasOlds nodes from old end → HasOlds nodes from new end
  olds_kept old new end keeps olds = λ n l below earlier top lower under. keeps top (olds n l below earlier top lower under)

  pub olds_more : (list : List ℕ) (end : ℕ) → HasOld nodes from list end → HasOlds nodes from list end → HasOlds nodes from list (end + 1)
  olds_more list end one olds = λ n l below.
      ⊎_elim (λ less. olds n l less)
      (λ more. let same : end ≡ n = omega (arith, below, more) in subst (HasOld nodes from list) same one)
      (cases_lt n end)

  pub olds_none : (list : List ℕ) → HasOlds nodes from list from
  olds_none list = λ n l below. absurd (omega (arith, l, below))

  pub olds_all : (list : List ℕ) (n end : ℕ) → end ≤ n → HasOlds nodes from list n → HasOlds nodes from list end
  olds_all list n end l olds = λ k above below. olds k above (omega (arith, l, below))

  -- ---- actions

  pub ways_kept : (old new : List ℕ) (fresh : List Act) (end : ℕ) → Keeps old new → HasWaysOf nodes from old fresh end → HasWaysOf nodes from new fresh end
  ways_kept old new fresh end keeps ways = λ i act below at n is lower earlier top under. keeps top (ways i act below at n is lower earlier top under)

  pub ways_more : (list : List ℕ) (fresh : List Act) (end : ℕ) (act : Act) → slice_get fresh end ≡ Some act → HasWayOf nodes from list act → HasWaysOf nodes from list fresh end → HasWaysOf nodes from list fresh (end + 1)
  ways_more list fresh end act at one ways = λ i other below is.
      ⊎_elim (λ less. ways i other less is)
      (λ more.
      let same : i ≡ end = omega (arith, below, more) in
      let e : act ≡ other = same_Some act other (sym at ∙ ap (slice_get fresh) (sym same) ∙ is) in
      subst (HasWayOf nodes from list) e one)
      (cases_lt i end)

  -- ---- all of them

  pub touched_in : (list : List ℕ) (fresh : List Act) → HasOlds nodes from list (length nodes) → HasWaysOf nodes from list fresh (length fresh) → StandsEarlier nodes → HasTouched nodes from fresh list
  touched_in list fresh olds ways earlier n lower touched = by touched.below touched.under touched.new
    where
      new : (below : ℕ) → StandsUnder nodes n below → from ≤ below → Has list n
      new below under l =
          ⊎_elim (λ same. absurd (omega (arith, same, lower, l)))
          (λ up. olds below l (slice_get_within nodes below up.1.node up.1.is) earlier n lower under)
          (over nodes under)

      of_act : (below : ℕ) → StandsUnder nodes n below → IsOfAct fresh below → (below < from) ⊎ (from ≤ below) → Has list n
      of_act below under of (inl old) = ways of.0 of.1 (slice_get_within fresh of.0 of.1 of.2) of.2 below of.3 old earlier n under
      of_act below under of (inr l) = new below under l

      by : (below : ℕ) → StandsUnder nodes n below → (from ≤ below) ⊎ IsOfAct fresh below → Has list n
      by below under (inl l) = new below under l
      by below under (inr of) = of_act below under of (cases_lt below from)
