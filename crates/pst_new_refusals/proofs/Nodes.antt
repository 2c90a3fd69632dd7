-- Nodes that are looked through from a number on.
use Rattle.std.proofs.Common.{◌≡◌, ◌⊎◌, ℕ, ◌+◌, ◌<◌, ◌≤◌, List, length, Bool, true, false, not, ◌&&◌, Some, sym, ap, ◌∙◌, subst, inl, inr, ⊎_elim, arith}
use Rattle.std.specs.Prelude.{slice_get}
use Rattle.std.specs.List.{list_any}
use Rattle.std.proofs.lemmas.Bool.{cases_lt}
use Rattle.std.proofs.lemmas.Option.{same_Some, slice_get_within}
use Rattle.pst_model.specs.ModelTree.{ModelTree}
use Rattle.pst_scen.specs.declared.tree.Node.{Node}
use Rattle.pst_scen.specs.declared.act.Act.{Act}
use Rattle.pst_scen.specs.declared.scenario.Scenario.{Scenario}
use Rattle.pst_slots.specs.Stated.{statement_of}
use Rattle.pst_slots.specs.Listed.{of_fill, of_stated}
use Rattle.pst_refusals.specs.Answers.{StandEarlier}
use Rattle.pst_refusals.specs.Failing.{fails}
use Rattle.pst_touched.specs.Touched.{Has, HasTouched}
use Rattle.pst_new_refusals.specs.Settled.{is_looking_refused, AreLookingFree}
use Rattle.pst_new_refusals.specs.Newly.{is_act_refused, is_leaf, is_own_refused, AreFree, AreTraversedFree, ArePlainFree, AreInlinesFree, AreFreeAt, AreBehindFree, AreStatedFreeAt, AreTouchedFree, IfNot}

below_or_at : (k n : ℕ) → k < n + 1 → (k < n) ⊎ (k ≡ n)
below_or_at k n l = ⊎_elim (λ less. inl less) (λ more. inr (omega (arith, l, more))) (cases_lt k n)

module _ (m : ModelTree) (s : Scenario) (from n : ℕ) where
  -- one node more
  pub free_more : (x : Node) → slice_get s.nodes n ≡ Some x → list_any (fails false) (of_fill m s n x.fill) ≡ false → AreFree m s from n → AreFree m s from (n + 1)
  free_more x is none free k node above l at =
      ⊎_elim (λ below. free k node above below at)
      (λ same.
      let e : x ≡ node = same_Some x node (sym is ∙ ap (slice_get s.nodes) (sym same) ∙ at) in
      subst (λ i. list_any (fails false) (of_fill m s i node.fill) ≡ false) (sym same) (subst (λ (y : Node). list_any (fails false) (of_fill m s n y.fill) ≡ false) e none))
      (below_or_at k n l)

  pub free_all : (end : ℕ) → end ≤ n → AreFree m s from n → AreFree m s from end
  free_all end l free k node above below at = free k node above (omega (arith, l, below)) at

pub free_none : (m : ModelTree) (s : Scenario) (from : ℕ) → AreFree m s from from
free_none m s from n node above below at = absurd (omega (arith, above, below))

-- ---- what stands at traversals

module _ (m : ModelTree) (s : Scenario) (from n : ℕ) where
  pub traversed_more : (x : Node) (b : Bool) → slice_get s.nodes n ≡ Some x → b ≡ false → (StandEarlier s.nodes → b ≡ (not (is_leaf x.fill) && list_any (fails false) (of_stated m s n (statement_of m s.nodes n)))) → AreTraversedFree m s from n → AreTraversedFree m s from (n + 1)
  traversed_more x b is none tells free earlier k node above l at other =
      ⊎_elim (λ below. free earlier k node above below at other)
      (λ same.
      let e : x ≡ node = same_Some x node (sym is ∙ ap (slice_get s.nodes) (sym same) ∙ at) in
      let leafless : is_leaf x.fill ≡ false = ap (λ (y : Node). is_leaf y.fill) e ∙ other in
      let one : list_any (fails false) (of_stated m s n (statement_of m s.nodes n)) ≡ false = ap (λ c. not c && list_any (fails false) (of_stated m s n (statement_of m s.nodes n))) (sym leafless) ∙ sym (tells earlier) ∙ none in
      subst (λ i. list_any (fails false) (of_stated m s i (statement_of m s.nodes i)) ≡ false) (sym same) one)
      (below_or_at k n l)

  pub traversed_all : (end : ℕ) → end ≤ n → AreTraversedFree m s from n → AreTraversedFree m s from end
  traversed_all end l free earlier k node above below at other = free earlier k node above (omega (arith, l, below)) at other

pub traversed_none : (m : ModelTree) (s : Scenario) (from : ℕ) → AreTraversedFree m s from from
traversed_none m s from earlier n node above below at other = absurd (omega (arith, above, below))

-- ---- both parts

pub plain_if : (m : ModelTree) (s : Scenario) (from : ℕ) (fresh : List Act) (b : Bool) → AreFree m s from (length s.nodes) → b ≡ list_any (is_act_refused m s) fresh → IfNot b (ArePlainFree m s from fresh)
plain_if m s from fresh true nodes e = tt
plain_if m s from fresh false nodes e = record { nodes = nodes; acts = sym e }

pub inlines_if : (m : ModelTree) (s : Scenario) (from : ℕ) (fresh : List Act) (b : Bool) → AreTraversedFree m s from (length s.nodes) → (StandEarlier s.nodes → b ≡ list_any (is_own_refused m s) fresh) → IfNot b (AreInlinesFree m s from fresh)
inlines_if m s from fresh true nodes e = tt
inlines_if m s from fresh false nodes e = record { nodes = nodes; acts = λ earlier. sym (e earlier) }

-- ---- a list that is looked through

pub each_more : (P : ℕ → Type 0) (list : List ℕ) (end x : ℕ) → slice_get list end ≡ Some x → P x → ((i k : ℕ) → i < end → slice_get list i ≡ Some k → P k) → (i k : ℕ) → i < end + 1 → slice_get list i ≡ Some k → P k
each_more P list end x at one each i k l is =
    ⊎_elim (λ below. each i k below is) (λ same. subst P (same_Some x k (sym at ∙ ap (slice_get list) (sym same) ∙ is)) one) (below_or_at i end l)

pub each_all : (P : ℕ → Type 0) (list : List ℕ) (end : ℕ) → length list ≤ end → ((i k : ℕ) → i < end → slice_get list i ≡ Some k → P k) → (k : ℕ) → Has list k → P k
each_all P list end l each k has = let within = slice_get_within list has.0 k has.1 in each has.0 k (omega (arith, within, l)) has.1

-- ---- numbers from one on

module _ (P : ℕ → Type 0) (from : ℕ) where
  pub from_none : (n : ℕ) → from ≤ n → n < from → P n
  from_none n above below = absurd (omega (arith, above, below))

  pub from_more : (end : ℕ) → P end → ((n : ℕ) → from ≤ n → n < end → P n) → (n : ℕ) → from ≤ n → n < end + 1 → P n
  from_more end one each n above l = ⊎_elim (λ below. each n above below) (λ same. subst P (sym same) one) (below_or_at n end l)

  pub from_all : (end all : ℕ) → all ≤ end → ((n : ℕ) → from ≤ n → n < end → P n) → (n : ℕ) → from ≤ n → n < all → P n
  from_all end all l each n above below = each n above (omega (arith, l, below))

-- ---- inline constraints that look behind a handle

module _ (m : ModelTree) (s : Scenario) (top handle : ℕ) where
  pub looking_none : AreLookingFree m s top handle 0
  looking_none earlier n below = absurd (omega (arith, below))

  pub looking_more : (end : ℕ) → (StandEarlier s.nodes → is_looking_refused m s top handle end ≡ false) → AreLookingFree m s top handle end → AreLookingFree m s top handle (end + 1)
  looking_more end one each earlier n l =
      ⊎_elim (λ below. each earlier n below) (λ same. subst (λ k. is_looking_refused m s top handle k ≡ false) (sym same) (one earlier)) (below_or_at n end l)

  pub looking_all : (end all : ℕ) → all ≤ end → AreLookingFree m s top handle end → AreLookingFree m s top handle all
  looking_all end all l each earlier n below = each earlier n (omega (arith, l, below))

-- ---- what is touched

pub touched_if : (m : ModelTree) (s : Scenario) (named : List (List ℕ)) (inlines : Bool) (from : ℕ) (fresh : List Act) (list : List ℕ) (b : Bool) → (StandEarlier s.nodes → HasTouched s.nodes from fresh list) → AreBehindFree m s named from list → AreFreeAt m s list
    → IfNot b ((inlines ≡ false) ⊎ AreStatedFreeAt m s list) → IfNot b (AreTouchedFree m s named inlines from fresh)
touched_if m s named inlines from fresh list true all behind nodes stated = tt
touched_if m s named inlines from fresh list false all behind nodes stated = record { list = list; all = all; behind = behind; nodes = nodes; stated = stated }
