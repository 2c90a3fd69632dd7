-- Looking a slot up, and adding it.
use Rattle.std.proofs.Common.{◌≡◌, ℕ, zero, suc, ◌+◌, ◌-◌, ◌<◌, List, [], ◌∷◌, ◌++◌, Bool, true, false, refl, sym, ap, ◌∙◌, arith, length, map}
use Rattle.std.specs.Prelude.{◌||◌, if◌then◌else◌}
use Rattle.std.specs.List.{list_any}
use Rattle.std.proofs.lemmas.List.{map-append, length-map}
use Rattle.pst_model.specs.ConstraintTree.{SlotTree}
use Rattle.pst_terms.specs.Fields.{counted}
use Rattle.pst_terms.specs.Slots.{same_slot, with_slot, with_slots, slot_number, first_number}
use Rattle.pst_numbering.specs.declared.reading.KeptSlot.{KeptSlot}
use Rattle.pst_numbering.specs.Kept.{view_kept, view_all, kept_at, elements_of, field_in}
use Rattle.pst_numbering.proofs.Grown.{same_itself}

-- ---- over trees

below_by : (b there : Bool) (n l : ℕ) → (n ≡ l → there ≡ false) → (if b then 0 else suc n) ≡ suc l → (b || there) ≡ false
below_by true there n l f e = absurd (omega (arith, e))
below_by false there n l f e = f (omega (arith, e))

missing : (slots : List SlotTree) (slot : SlotTree) → slot_number slots slot ≡ length slots → list_any (same_slot slot) slots ≡ false
missing [] slot e = refl
missing (s ∷ slots) slot e = below_by (same_slot slot s) (list_any (same_slot slot) slots) (slot_number slots slot) (length slots) (missing slots slot) e

there_by : (b there : Bool) (n l : ℕ) → (there ≡ false → n ≡ l) → ((if b then 0 else suc n) ≡ suc l → ⊥) → (b || there) ≡ true
there_by true there n l f e = refl
there_by false true n l f e = refl
there_by false false n l f e = absurd (e (ap suc (f refl)))

last_by : (b there : Bool) (n m : ℕ) → (there ≡ false → n ≡ m) → (b || there) ≡ false → (if b then 0 else suc n) ≡ suc m
last_by true there n m f e = cc
last_by false there n m f e = ap suc (f e)

at_end : (slots : List SlotTree) (slot : SlotTree) → list_any (same_slot slot) slots ≡ false → slot_number slots slot ≡ length slots
at_end [] slot e = refl
at_end (s ∷ slots) slot e = last_by (same_slot slot s) (list_any (same_slot slot) slots) (slot_number slots slot) (length slots) (at_end slots slot) e

there : (slots : List SlotTree) (slot : SlotTree) → (slot_number slots slot ≡ length slots → ⊥) → list_any (same_slot slot) slots ≡ true
there [] slot e = absurd (e refl)
there (s ∷ slots) slot e = there_by (same_slot slot s) (list_any (same_slot slot) slots) (slot_number slots slot) (length slots) (at_end slots slot) e

last_place : (slots : List SlotTree) (slot : SlotTree) → list_any (same_slot slot) slots ≡ false → slot_number (slots ++ slot ∷ []) slot ≡ length slots
last_place [] slot e = ap (λ (b : Bool). if b then 0 else 1) (same_itself slot)
last_place (s ∷ slots) slot e = last_by (same_slot slot s) (list_any (same_slot slot) slots) (slot_number (slots ++ slot ∷ []) slot) (length slots) (last_place slots slot) e

by_true : (b : Bool) (slots other : List SlotTree) → b ≡ true → slots ≡ (if b then slots else other)
by_true true slots other e = refl
by_true false slots other e = cc

by_false : (b : Bool) (slots other : List SlotTree) → b ≡ false → other ≡ (if b then slots else other)
by_false true slots other e = cc
by_false false slots other e = refl

-- ---- over kept slots

missing_kept : (slots : List KeptSlot) (slot : KeptSlot) → slot_number (view_all slots) (view_kept slot) ≡ length slots → list_any (same_slot (view_kept slot)) (view_all slots) ≡ false
missing_kept slots slot e = missing (view_all slots) (view_kept slot) (e ∙ sym (length-map slots view_kept))

pub new_slots : (slots : List KeptSlot) (slot : KeptSlot) → slot_number (view_all slots) (view_kept slot) ≡ length slots → view_all (slots ++ slot ∷ []) ≡ with_slot (view_all slots) (view_kept slot)
new_slots slots slot e = map-append view_kept slots (slot ∷ []) ∙ by_false (list_any (same_slot (view_kept slot)) (view_all slots)) (view_all slots) (view_all slots ++ view_kept slot ∷ []) (missing_kept slots slot e)

pub new_number : (slots : List KeptSlot) (slot : KeptSlot) → slot_number (view_all slots) (view_kept slot) ≡ length slots → slot_number (view_all slots) (view_kept slot) ≡ slot_number (view_all (slots ++ slot ∷ [])) (view_kept slot)
new_number slots slot e =
    e ∙ sym (ap (λ (l : List SlotTree). slot_number l (view_kept slot)) (map-append view_kept slots (slot ∷ [])) ∙ last_place (view_all slots) (view_kept slot) (missing_kept slots slot e) ∙ length-map slots view_kept)

pub kept_slots : (slots : List KeptSlot) (slot : KeptSlot) → (slot_number (view_all slots) (view_kept slot) ≡ length slots → ⊥) → view_all slots ≡ with_slot (view_all slots) (view_kept slot)
kept_slots slots slot e =
    by_true (list_any (same_slot (view_kept slot)) (view_all slots)) (view_all slots) (view_all slots ++ view_kept slot ∷ []) (there (view_all slots) (view_kept slot) (λ (f : slot_number (view_all slots) (view_kept slot) ≡ length (view_all slots)). e (f ∙ length-map slots view_kept)))

-- ---- elements

length_counted : (first n : ℕ) → length (counted first n) ≡ n
length_counted first zero = refl
length_counted first (suc n) = ap suc (length_counted (first + 1) n)

pub length_elements : (first : KeptSlot) (n : ℕ) → length (elements_of first n) ≡ n
length_elements first n = length-map (counted (field_in first.own) n) (kept_at first) ∙ length_counted (field_in first.own) n

counted_suc : (first n m : ℕ) → n ≡ suc m → counted first n ≡ first ∷ counted (first + 1) m
counted_suc first n m e = ap (counted first) e

-- one element after another
pub element_more : (slots new total : List SlotTree) (first : KeptSlot) (field end : ℕ) → field < end → new ≡ with_slot slots (kept_at first field)
    → with_slots slots (map (kept_at first) (counted field (end - field))) ≡ total → with_slots new (map (kept_at first) (counted (field + 1) (end - (field + 1)))) ≡ total
element_more slots new total first field end below is before =
    let one_less : end - field ≡ suc (end - (field + 1)) = omega (arith, below) in
    ap (λ (l : List SlotTree). with_slots l (map (kept_at first) (counted (field + 1) (end - (field + 1))))) is
    ∙ sym (ap (λ (ks : List ℕ). with_slots slots (map (kept_at first) ks)) (counted_suc field (end - field) (end - (field + 1)) one_less))
    ∙ before

pub first_is : (slots : List SlotTree) (first : KeptSlot) (n : ℕ) → (n ≡ 0 → ⊥) → slot_number slots (kept_at first (field_in first.own)) ≡ first_number slots (elements_of first n)
first_is slots first zero some = absurd (some refl)
first_is slots first (suc n) some = refl
