-- The variables of an expression are below its slots, which stand in its term.
use Rattle.std.proofs.Common.{◌≡◌, ◌⊎◌, ◌≤◌, inl, inr, refl, sym, ap, arith, true≢false}
use Rattle.std.specs.Prelude.{ℕ, ◌+◌, Bool, true, false, ◌||◌, List, [], ◌∷◌, ◌++◌, length, slice_get, get_or, Some, if◌then◌else◌}
use Rattle.std.specs.List.{flat_map}
use Rattle.std.proofs.lemmas.Option.{slice_get_within, slice_get-get_or}
use Rattle.pst_model.specs.ConstraintTree.{SlotTree}
use Rattle.pst_model.specs.SoundConstraint.{IsBelow}
use Rattle.pst_terms.specs.Terms.{Term, Number, Leaf, Prefix, Infix, Indexed}
use Rattle.pst_terms.specs.Slots.{same_slot, with_slot, with_slots, with_term, slots_of, slot_number, first_number, numbered}
use Rattle.pst_terms.specs.Laws.{StandIn, blocks, is_in, HasRightArrays, slots_in}

-- ---- variables

all_below : (slots elements : List SlotTree) (first : ℕ) → 1 ≤ length elements → ((i : ℕ) (slot : SlotTree) → slice_get elements i ≡ Some slot → slice_get slots (first + i) ≡ Some slot)
    → first + length elements ≤ length slots
all_below slots [] first some together = omega (arith, some)
all_below slots (x ∷ more) first some together =
    let last = length more in
    let got : slice_get slots (first + last) ≡ Some (get_or (x ∷ more) last x) = together last (get_or (x ∷ more) last x) (slice_get-get_or (x ∷ more) last x (omega arith)) in
    omega (arith, slice_get_within slots (first + last) (get_or (x ∷ more) last x) got)

pub below : (slots : List SlotTree) (term : Term SlotTree) → StandIn slots term → HasRightArrays term → IsBelow (length slots) (numbered slots term)
below slots (Number n) stand right = tt
below slots (Leaf slot) stand right = slice_get_within slots (slot_number slots slot) slot stand
below slots (Prefix operator operand) stand right = below slots operand stand right
below slots (Infix operator left other) stand right = (below slots left stand.0 right.0, below slots other stand.1 right.1)
below slots (Indexed elements index) stand right = (right.0, right.1, all_below slots elements (first_number slots elements) right.0 stand.0, below slots index stand.1 right.2)

-- ---- slots

or_cases : (a b : Bool) → (a || b) ≡ true → (a ≡ true) ⊎ (b ≡ true)
or_cases true b e = inl refl
or_cases false b e = inr e

or_left : (a b : Bool) → a ≡ true → (a || b) ≡ true
or_left a b e = ap (λ (c : Bool). c || b) e

or_right : (a b : Bool) → b ≡ true → (a || b) ≡ true
or_right true b e = refl
or_right false b e = e

module _ (slot : SlotTree) where
  abbrev In : List SlotTree → Type 0
  In xs = is_in slot xs ≡ true

  in_front : (xs ys : List SlotTree) → In xs → In (xs ++ ys)
  in_front [] ys e = absurd (true≢false (sym e))
  in_front (x ∷ xs) ys e = by (or_cases (same_slot slot x) (is_in slot xs) e) (in_front xs ys)
    where
      by : (same_slot slot x ≡ true) ⊎ In xs → (In xs → In (xs ++ ys)) → In (x ∷ (xs ++ ys))
      by (inl h) on = or_left (same_slot slot x) (is_in slot (xs ++ ys)) h
      by (inr h) on = or_right (same_slot slot x) (is_in slot (xs ++ ys)) (on h)

  in_behind : (xs ys : List SlotTree) → In ys → In (xs ++ ys)
  in_behind [] ys e = e
  in_behind (x ∷ xs) ys e = or_right (same_slot slot x) (is_in slot (xs ++ ys)) (in_behind xs ys e)

  in_either : (xs ys : List SlotTree) → In (xs ++ ys) → In xs ⊎ In ys
  in_either [] ys e = inr e
  in_either (x ∷ xs) ys e = by (or_cases (same_slot slot x) (is_in slot (xs ++ ys)) e) (in_either xs ys)
    where
      on : In xs ⊎ In ys → In (x ∷ xs) ⊎ In ys
      on (inl h) = inl (or_right (same_slot slot x) (is_in slot xs) h)
      on (inr h) = inr h

      by : (same_slot slot x ≡ true) ⊎ In (xs ++ ys) → (In (xs ++ ys) → In xs ⊎ In ys) → In (x ∷ xs) ⊎ In ys
      by (inl h) f = inl (or_left (same_slot slot x) (is_in slot xs) h)
      by (inr h) f = on (f h)

  of_added : (t : Bool) (slots : List SlotTree) (x : SlotTree) → In (if t then slots else slots ++ x ∷ []) → In slots ⊎ In (x ∷ [])
  of_added true slots x e = inl e
  of_added false slots x e = in_either slots (x ∷ []) e

  further : (slots : List SlotTree) (x : SlotTree) (more : List SlotTree) → In (with_slot slots x) ⊎ In more → In slots ⊎ In (x ∷ more)
  further slots x more (inl h) = on (of_added (is_in x slots) slots x h)
    where
      on : In slots ⊎ In (x ∷ []) → In slots ⊎ In (x ∷ more)
      on (inl h) = inl h
      on (inr h) = inr (in_front (x ∷ []) more h)
  further slots x more (inr h) = inr (or_right (same_slot slot x) (is_in slot more) h)

  of_slots : (slots b : List SlotTree) → In (with_slots slots b) → In slots ⊎ In b
  of_slots slots [] e = inl e
  of_slots slots (x ∷ more) e = further slots x more (of_slots (with_slot slots x) more e)

  flat_front : (xs ys : List (List SlotTree)) → In (flat_map (λ b. b) xs) → In (flat_map (λ b. b) (xs ++ ys))
  flat_front [] ys e = absurd (true≢false (sym e))
  flat_front (x ∷ xs) ys e = by (in_either x (flat_map (λ b. b) xs) e) (flat_front xs ys)
    where
      by : In x ⊎ In (flat_map (λ b. b) xs) → (In (flat_map (λ b. b) xs) → In (flat_map (λ b. b) (xs ++ ys))) → In (x ++ flat_map (λ b. b) (xs ++ ys))
      by (inl h) on = in_front x (flat_map (λ b. b) (xs ++ ys)) h
      by (inr h) on = in_behind x (flat_map (λ b. b) (xs ++ ys)) (on h)

  flat_behind : (xs ys : List (List SlotTree)) → In (flat_map (λ b. b) ys) → In (flat_map (λ b. b) (xs ++ ys))
  flat_behind [] ys e = e
  flat_behind (x ∷ xs) ys e = in_behind x (flat_map (λ b. b) (xs ++ ys)) (flat_behind xs ys e)

  of_term : (slots : List SlotTree) (term : Term SlotTree) → In (with_term slots term) → In slots ⊎ In (slots_in term)
  of_term slots (Number n) e = inl e
  of_term slots (Leaf x) e = of_added (is_in x slots) slots x e
  of_term slots (Prefix operator operand) e = of_term slots operand e
  of_term slots (Infix operator left right) e = by (of_term (with_term slots left) right e) (of_term slots left)
    where
      on : In slots ⊎ In (slots_in left) → In slots ⊎ In (slots_in (Infix operator left right))
      on (inl h) = inl h
      on (inr h) = inr (flat_front (blocks left) (blocks right) h)

      by : In (with_term slots left) ⊎ In (slots_in right) → (In (with_term slots left) → In slots ⊎ In (slots_in left)) → In slots ⊎ In (slots_in (Infix operator left right))
      by (inl h) f = on (f h)
      by (inr h) f = inr (flat_behind (blocks left) (blocks right) h)
  of_term slots (Indexed elements index) e = by (of_term (with_slots slots elements) index e)
    where
      on : In slots ⊎ In elements → In slots ⊎ In (slots_in (Indexed elements index))
      on (inl h) = inl h
      on (inr h) = inr (in_front elements (slots_in index) h)

      by : In (with_slots slots elements) ⊎ In (slots_in index) → In slots ⊎ In (slots_in (Indexed elements index))
      by (inl h) = on (of_slots slots elements h)
      by (inr h) = inr (in_behind elements (slots_in index) h)

  from_nothing : (term : Term SlotTree) → In [] ⊎ In (slots_in term) → In (slots_in term)
  from_nothing term (inl e) = absurd (true≢false (sym e))
  from_nothing term (inr h) = h

  pub among : (term : Term SlotTree) → In (slots_of term) → In (slots_in term)
  among term e = from_nothing term (of_term [] term e)
