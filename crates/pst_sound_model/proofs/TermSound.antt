-- A term whose slots and arrays are of rows that have a meaning is a sound expression.
use Rattle.std.proofs.Common.{◌≡◌, ◌⊎◌, ◌<◌, ◌≤◌, inl, inr, ⊎_elim, refl, sym, ap, subst, arith, ◌∙◌}
use Rattle.std.specs.Prelude.{ℕ, ◌+◌, ◌-◌, Bool, true, false, List, [], ◌∷◌, map, length, get_or}
use Rattle.std.specs.List.{flat_map, Contains}
use Rattle.std.proofs.lemmas.Bool.{false≢true}
use Rattle.std.proofs.lemmas.Option.{slice_get-get_or}
use Rattle.pst_model.specs.Limits.{most_elements}
use Rattle.pst_model.specs.ConstraintTree.{SlotTree}
use Rattle.pst_model.specs.SoundConstraint.{IsSoundConstraint}
use Rattle.pst_terms.specs.Fields.{counted}
use Rattle.pst_terms.specs.Terms.{Term, Number, Leaf, Prefix, Infix, Indexed}
use Rattle.pst_terms.specs.Slots.{same_slot, slots_of, constraint_of}
use Rattle.pst_terms.specs.Laws.{blocks, is_in, HasNoneTwice, AreApart, HasRightArrays}
use Rattle.pst_terms.proofs.SameSlots.{same_itself, same_to}
use Rattle.pst_terms.proofs.Standing.{slots_stand, in_got}
use Rattle.pst_terms.proofs.Below.{below, among}
use Rattle.pst_sound_model.specs.Blocks.{without_field, with_field, has_field, IsBlock, HasBlocks, AreRows}
use Rattle.pst_sound_model.proofs.Members.{In, in_append, from_contains}
use Rattle.pst_sound_model.proofs.Slots.{bare_with, length_row, IsOfRow, in_row, not_in, same_field, none_twice, in_either}

module _ (IsSlot : SlotTree → Type 0) (IsRow : SlotTree → ℕ → ℕ → Type 0) (rows : AreRows IsSlot IsRow) where
  -- ---- blocks

  in_blocks : (term : Term SlotTree) → HasBlocks IsRow term → (b : List SlotTree) → In b (blocks term) → IsBlock IsRow b
  in_blocks (Number n) has b there = absurd there
  in_blocks (Leaf slot) has b (inl e) = subst (λ (c : List SlotTree). IsBlock IsRow c) e has
  in_blocks (Leaf slot) has b (inr there) = absurd there
  in_blocks (Prefix operator operand) has b there = in_blocks operand has b there
  in_blocks (Infix operator left right) has b there = ⊎_elim (λ h. in_blocks left has.0 b h) (λ h. in_blocks right has.1 b h) (in_append (blocks left) (blocks right) b there)
  in_blocks (Indexed elements index) has b (inl e) = subst (λ (c : List SlotTree). IsBlock IsRow c) e has.0
  in_blocks (Indexed elements index) has b (inr there) = in_blocks index has.1 b there

  of_row : (b : List SlotTree) (k : IsBlock IsRow b) (slot : SlotTree) → is_in slot b ≡ true → IsOfRow k.slot k.first k.count slot
  of_row b k slot e = in_row k.slot k.first k.count slot (subst (λ (c : List SlotTree). is_in slot c ≡ true) k.is e)

  kind_of : (b : List SlotTree) (k : IsBlock IsRow b) (slot : SlotTree) → IsOfRow k.slot k.first k.count slot → without_field slot ≡ k.slot
  kind_of b k slot r = ap without_field r.is ∙ (bare_with k.slot r.field ∙ rows.bare k.slot k.first k.count k.row)

  -- ---- two blocks

  -- two numbers of one row of no field
  meets : (s : SlotTree) (f n g m : ℕ) → IsRow s f n → IsRow s g m → (f + n ≤ g) ⊎ (g + m ≤ f) → (slot : SlotTree) → IsOfRow s f n slot → IsOfRow s g m slot → ⊥
  meets s f n g m one two away slot p q = by (has_field s) refl
    where
      far : p.field ≡ q.field → (f + n ≤ g) ⊎ (g + m ≤ f) → ⊥
      far same (inl h) = absurd (omega (arith, same, h, p.below, q.from))
      far same (inr h) = absurd (omega (arith, same, h, q.below, p.from))

      alone : (f ≡ 0) × (n ≡ 1) → (g ≡ 0) × (m ≡ 1) → (f + n ≤ g) ⊎ (g + m ≤ f) → ⊥
      alone x y (inl h) = absurd (omega (arith, x.0, x.1, y.0, y.1, h))
      alone x y (inr h) = absurd (omega (arith, x.0, x.1, y.0, y.1, h))

      by : (b : Bool) → has_field s ≡ b → ⊥
      by true has = far (same_field s p.field q.field has (sym p.is ∙ q.is)) away
      by false has = alone (rows.alone s f n one has) (rows.alone s g m two has) away

  same_kind : (b c : List SlotTree) (s : SlotTree) (f n g m : ℕ) → IsRow s f n → IsRow s g m → b ≡ map (with_field s) (counted f n) → c ≡ map (with_field s) (counted g m) → AreApart b c
  same_kind b c s f n g m one two is also = by (rows.apart s f n g m one two)
    where
      at : (slot : SlotTree) → is_in slot b ≡ true → IsOfRow s f n slot
      at slot e = in_row s f n slot (subst (λ (x : List SlotTree). is_in slot x ≡ true) is e)

      too : (slot : SlotTree) → is_in slot c ≡ true → IsOfRow s g m slot
      too slot e = in_row s g m slot (subst (λ (x : List SlotTree). is_in slot x ≡ true) also e)

      by : ((f ≡ g) × (n ≡ m)) ⊎ ((f + n ≤ g) ⊎ (g + m ≤ f)) → AreApart b c
      by (inl same) = inl (is ∙ ((λ i. map (with_field s) (counted (same.0 i) (same.1 i))) ∙ sym also))
      by (inr away) = inr (λ slot e. not_in slot c (λ h. meets s f n g m one two away slot (at slot e) (too slot h)))

  apart : (b c : List SlotTree) → IsBlock IsRow b → IsBlock IsRow c → AreApart b c
  apart b c k l = by (same_slot k.slot l.slot) refl
    where
      by : (t : Bool) → same_slot k.slot l.slot ≡ t → AreApart b c
      by true e =
          let same : l.slot ≡ k.slot = sym (same_to k.slot l.slot e) in
          same_kind b c k.slot k.first k.count l.first l.count k.row (subst (λ (s : SlotTree). IsRow s l.first l.count) same l.row) k.is
          (subst (λ (s : SlotTree). c ≡ map (with_field s) (counted l.first l.count)) same l.is)
      by false e =
          inr (λ slot h. not_in slot c (λ g. absurd (false≢true (sym e ∙ (ap (λ (s : SlotTree). same_slot s l.slot) (sym (kind_of b k slot (of_row b k slot h)) ∙ kind_of c l slot (of_row c l slot g)) ∙ same_itself l.slot)))))

  one_alone : (s : SlotTree) (f n : ℕ) → (f ≡ 0) × (n ≡ 1) → HasNoneTwice (map (with_field s) (counted f n))
  one_alone s f n e = subst (λ (m : ℕ). HasNoneTwice (map (with_field s) (counted f m))) (sym e.1) (refl, tt)

  once : (b : List SlotTree) → IsBlock IsRow b → HasNoneTwice b
  once b k = subst HasNoneTwice (sym k.is) (by (has_field k.slot) refl)
    where
      by : (t : Bool) → has_field k.slot ≡ t → HasNoneTwice (map (with_field k.slot) (counted k.first k.count))
      by true has = none_twice k.slot k.first k.count has
      by false has = one_alone k.slot k.first k.count (rows.alone k.slot k.first k.count k.row has)

  as_many : (b : List SlotTree) (k : IsBlock IsRow b) → length b ≡ k.count
  as_many b k = ap length k.is ∙ length_row (with_field k.slot) k.first k.count

  right_arrays : (term : Term SlotTree) → HasBlocks IsRow term → HasRightArrays term
  right_arrays (Number n) has = tt
  right_arrays (Leaf slot) has = tt
  right_arrays (Prefix operator operand) has = right_arrays operand has
  right_arrays (Infix operator left right) has = (right_arrays left has.0, right_arrays right has.1)
  right_arrays (Indexed elements index) has =
      let k = has.0 in
      let same : length elements ≡ k.count = as_many elements k in
      let least : 1 ≤ k.count = rows.least k.slot k.first k.count k.row in
      let most : k.count ≤ most_elements = rows.most k.slot k.first k.count k.row in
      (omega (arith, same, least), omega (arith, same, most), right_arrays index has.1)

  -- ---- the slots

  has_meaning : (b : List SlotTree) → IsBlock IsRow b → (slot : SlotTree) → is_in slot b ≡ true → IsSlot slot
  has_meaning b k slot e =
      let r = of_row b k slot e in
      let within : r.field - k.first < k.count = omega (arith, r.from, r.below) in
      let same : k.first + (r.field - k.first) ≡ r.field = omega (arith, r.from) in
      subst IsSlot (ap (with_field k.slot) same ∙ sym r.is) (rows.sound k.slot k.first k.count (r.field - k.first) k.row within)

  in_flat : (bs : List (List SlotTree)) → ((b : List SlotTree) → In b bs → IsBlock IsRow b) → (slot : SlotTree) → is_in slot (flat_map (λ b. b) bs) ≡ true → IsSlot slot
  in_flat [] all slot e = absurd (false≢true e)
  in_flat (b ∷ bs) all slot e =
      ⊎_elim (λ h. has_meaning b (all b (inl refl)) slot h) (λ h. in_flat bs (λ c there. all c (inr there)) slot h) (in_either slot b (flat_map (λ b. b) bs) e)

  pub term_is_sound : (term : Term SlotTree) → HasBlocks IsRow term → IsSoundConstraint IsSlot (constraint_of term)
  term_is_sound term has = record {
    below = below (slots_of term) term (slots_stand (λ (b : List SlotTree). Contains (blocks term) b) (λ b c x y. apart b c (at b x) (at c y)) (λ b x. once b (at b x)) term (λ b is. is)) (right_arrays term has);
    slots = λ k d within. let slot = get_or (slots_of term) k d in in_flat (blocks term) (in_blocks term has) slot (among slot term (in_got (slots_of term) k slot (slice_get-get_or (slots_of term) k d within)));
  }
    where
      at : (b : List SlotTree) → Contains (blocks term) b → IsBlock IsRow b
      at b c = in_blocks term has b (from_contains (blocks term) b c.0 c.1 c.2)
