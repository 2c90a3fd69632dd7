-- Slots with and without the numbers of their fields.
use Rattle.std.proofs.Common.{◌≡◌, ◌⊎◌, ◌<◌, ◌≤◌, inl, inr, refl, sym, ap, arith, ◌∙◌}
use Rattle.std.specs.Prelude.{ℕ, zero, suc, ◌+◌, Bool, true, false, List, [], ◌∷◌, ◌++◌, map, length}
use Rattle.std.proofs.lemmas.Bool.{false≢true, or_cases, or_left, or_right}
use Rattle.pst_model.specs.ConstraintTree.{SlotTree, Own, Object, First, ClaimId, ClaimField, Prev, IsFirst, Id, Index, Local, Through, Outer}
use Rattle.pst_terms.specs.Fields.{counted}
use Rattle.pst_terms.specs.Slots.{same_slot}
use Rattle.pst_terms.specs.Laws.{is_in, HasNoneTwice}
use Rattle.pst_terms.proofs.SameSlots.{same_to}
use Rattle.pst_sound_model.specs.Blocks.{without_field, with_field, has_field}

abbrev pub field_in : SlotTree → ℕ
field_in (Own field) = field
field_in (Object reference field) = field
field_in (First reference) = 0
field_in (ClaimId claim) = 0
field_in (ClaimField claim field) = field
field_in (Prev field) = field
field_in IsFirst = 0
field_in Id = 0
field_in (Index level) = 0
field_in (Local local) = 0
field_in (Through handle slot) = field_in slot
field_in (Outer slot) = field_in slot

pub field_with : (s : SlotTree) (k : ℕ) → has_field s ≡ true → field_in (with_field s k) ≡ k
field_with (Own field) k e = refl
field_with (Object reference field) k e = refl
field_with (First reference) k e = absurd (false≢true e)
field_with (ClaimId claim) k e = absurd (false≢true e)
field_with (ClaimField claim field) k e = refl
field_with (Prev field) k e = refl
field_with IsFirst k e = absurd (false≢true e)
field_with Id k e = absurd (false≢true e)
field_with (Index level) k e = absurd (false≢true e)
field_with (Local local) k e = absurd (false≢true e)
field_with (Through handle slot) k e = field_with slot k e
field_with (Outer slot) k e = field_with slot k e

pub bare_with : (s : SlotTree) (k : ℕ) → without_field (with_field s k) ≡ without_field s
bare_with (Own field) k = refl
bare_with (Object reference field) k = refl
bare_with (First reference) k = refl
bare_with (ClaimId claim) k = refl
bare_with (ClaimField claim field) k = refl
bare_with (Prev field) k = refl
bare_with IsFirst k = refl
bare_with Id k = refl
bare_with (Index level) k = refl
bare_with (Local local) k = refl
bare_with (Through handle slot) k = ap (Through handle) (bare_with slot k)
bare_with (Outer slot) k = ap Outer (bare_with slot k)

-- ---- rows

pub length_counted : (first n : ℕ) → length (counted first n) ≡ n
length_counted first zero = refl
length_counted first (suc n) = ap suc (length_counted (first + 1) n)

pub length_row : (f : ℕ → SlotTree) (first n : ℕ) → length (map f (counted first n)) ≡ n
length_row f first zero = refl
length_row f first (suc n) = ap suc (length_row f (first + 1) n)

-- a slot of a row
pub record IsOfRow (s : SlotTree) (first n : ℕ) (slot : SlotTree) : Type 0 where
  pub field : ℕ
  pub from : first ≤ field
  pub below : field < first + n
  pub is : slot ≡ with_field s field

pub in_row : (s : SlotTree) (first n : ℕ) (slot : SlotTree) → is_in slot (map (with_field s) (counted first n)) ≡ true → IsOfRow s first n slot
in_row s first zero slot e = absurd (false≢true e)
in_row s first (suc n) slot e = by (or_cases (same_slot slot (with_field s first)) (is_in slot (map (with_field s) (counted (first + 1) n))) e) (in_row s (first + 1) n slot)
  where
    more : IsOfRow s (first + 1) n slot → IsOfRow s first (suc n) slot
    more r = record { field = r.field; from = omega (arith, r.from); below = omega (arith, r.below); is = r.is }

    by : (same_slot slot (with_field s first) ≡ true) ⊎ (is_in slot (map (with_field s) (counted (first + 1) n)) ≡ true) → (is_in slot (map (with_field s) (counted (first + 1) n)) ≡ true → IsOfRow s (first + 1) n slot) → IsOfRow s first (suc n) slot
    by (inl h) on = record { field = first; from = omega arith; below = omega arith; is = same_to slot (with_field s first) h }
    by (inr h) on = more (on h)

-- where no slot of a list is a given one
pub not_in : (slot : SlotTree) (xs : List SlotTree) → (is_in slot xs ≡ true → ⊥) → is_in slot xs ≡ false
not_in slot xs never = by (is_in slot xs) refl
  where
    by : (b : Bool) → is_in slot xs ≡ b → is_in slot xs ≡ false
    by true e = absurd (never e)
    by false e = e

-- fields of one kind of slot are told apart
pub same_field : (s : SlotTree) (j k : ℕ) → has_field s ≡ true → with_field s j ≡ with_field s k → j ≡ k
same_field s j k has e = sym (field_with s j has) ∙ (ap field_in e ∙ field_with s k has)

pub none_twice : (s : SlotTree) (first n : ℕ) → has_field s ≡ true → HasNoneTwice (map (with_field s) (counted first n))
none_twice s first zero has = tt
none_twice s first (suc n) has = (not_in (with_field s first) (map (with_field s) (counted (first + 1) n)) (λ e. again (in_row s (first + 1) n (with_field s first) e)), none_twice s (first + 1) n has)
  where
    again : IsOfRow s (first + 1) n (with_field s first) → ⊥
    again r = let same : first ≡ r.field = same_field s first r.field has r.is in absurd (omega (arith, same, r.from))

pub in_either : (slot : SlotTree) (xs ys : List SlotTree) → is_in slot (xs ++ ys) ≡ true → (is_in slot xs ≡ true) ⊎ (is_in slot ys ≡ true)
in_either slot [] ys e = inr e
in_either slot (x ∷ xs) ys e = by (or_cases (same_slot slot x) (is_in slot (xs ++ ys)) e) (in_either slot xs ys)
  where
    on : (is_in slot xs ≡ true) ⊎ (is_in slot ys ≡ true) → (is_in slot (x ∷ xs) ≡ true) ⊎ (is_in slot ys ≡ true)
    on (inl h) = inl (or_right (same_slot slot x) (is_in slot xs) h)
    on (inr h) = inr h

    by : (same_slot slot x ≡ true) ⊎ (is_in slot (xs ++ ys) ≡ true) → (is_in slot (xs ++ ys) ≡ true → (is_in slot xs ≡ true) ⊎ (is_in slot ys ≡ true)) → (is_in slot (x ∷ xs) ≡ true) ⊎ (is_in slot ys ≡ true)
    by (inl h) f = inl (or_left (same_slot slot x) (is_in slot xs) h)
    by (inr h) f = on (f h)
