-- Rows of slots in activities: turns, and slots of the action round a traversal.
use Rattle.std.proofs.Common.{◌≡◌, ◌⊎◌, ◌<◌, ◌≤◌, inl, inr, refl, sym, ap, subst, arith, ◌∙◌}
use Rattle.std.specs.Prelude.{ℕ, zero, suc, ◌+◌, false, List, [], ◌∷◌, map}
use Rattle.pst_model.specs.Limits.{most_elements}
use Rattle.pst_model.specs.ConstraintTree.{SlotTree, Index, Outer}
use Rattle.pst_terms.specs.Fields.{counted}
use Rattle.pst_terms.specs.Terms.{Reading, ANumber, AThing, AnArray}
use Rattle.pst_terms.specs.Readings.{map_reading}
use Rattle.pst_sound_model.specs.Blocks.{without_field, with_field, has_field, IsBlock, AreRows}
use Rattle.pst_sound_model.specs.Used.{IsGood}

-- ---- rows of two kinds

abbrev pub Either : (SlotTree → ℕ → ℕ → Type 0) → (SlotTree → ℕ → ℕ → Type 0) → SlotTree → ℕ → ℕ → Type 0
Either R Q slot first count = R slot first count ⊎ Q slot first count

module _ (IsSlot : SlotTree → Type 0) (R Q : SlotTree → ℕ → ℕ → Type 0) (r : AreRows IsSlot R) (q : AreRows IsSlot Q) (never : (slot : SlotTree) (f n g m : ℕ) → R slot f n → Q slot g m → ⊥) where
  abbrev Away : ℕ → ℕ → ℕ → ℕ → Type 0
  Away f n g m = ((f ≡ g) × (n ≡ m)) ⊎ ((f + n ≤ g) ⊎ (g + m ≤ f))

  either_bare : (slot : SlotTree) (f n : ℕ) → Either R Q slot f n → without_field slot ≡ slot
  either_bare slot f n (inl h) = r.bare slot f n h
  either_bare slot f n (inr h) = q.bare slot f n h

  either_alone : (slot : SlotTree) (f n : ℕ) → Either R Q slot f n → has_field slot ≡ false → (f ≡ 0) × (n ≡ 1)
  either_alone slot f n (inl h) e = r.alone slot f n h e
  either_alone slot f n (inr h) e = q.alone slot f n h e

  either_least : (slot : SlotTree) (f n : ℕ) → Either R Q slot f n → 1 ≤ n
  either_least slot f n (inl h) = r.least slot f n h
  either_least slot f n (inr h) = q.least slot f n h

  either_most : (slot : SlotTree) (f n : ℕ) → Either R Q slot f n → n ≤ most_elements
  either_most slot f n (inl h) = r.most slot f n h
  either_most slot f n (inr h) = q.most slot f n h

  either_apart : (slot : SlotTree) (f n g m : ℕ) → Either R Q slot f n → Either R Q slot g m → Away f n g m
  either_apart slot f n g m (inl h) (inl k) = r.apart slot f n g m h k
  either_apart slot f n g m (inl h) (inr k) = absurd (never slot f n g m h k)
  either_apart slot f n g m (inr h) (inl k) = absurd (never slot g m f n k h)
  either_apart slot f n g m (inr h) (inr k) = q.apart slot f n g m h k

  either_sound : (slot : SlotTree) (f n k : ℕ) → Either R Q slot f n → k < n → IsSlot (with_field slot (f + k))
  either_sound slot f n k (inl h) less = r.sound slot f n k h less
  either_sound slot f n k (inr h) less = q.sound slot f n k h less

  pub either_rows : AreRows IsSlot (Either R Q)
  either_rows = record { bare = either_bare; alone = either_alone; least = either_least; most = either_most; apart = either_apart; sound = either_sound }

-- rows among others, whose slots have a meaning
pub fewer_rows : (IsSlot Other : SlotTree → Type 0) (R Q : SlotTree → ℕ → ℕ → Type 0) → AreRows Other Q → ((slot : SlotTree) (f n : ℕ) → R slot f n → Q slot f n)
    → ((slot : SlotTree) (f n k : ℕ) → R slot f n → k < n → IsSlot (with_field slot (f + k))) → AreRows IsSlot R
fewer_rows IsSlot Other R Q q into sound = record {
  bare = λ slot f n h. q.bare slot f n (into slot f n h);
  alone = λ slot f n h. q.alone slot f n (into slot f n h);
  least = λ slot f n h. q.least slot f n (into slot f n h);
  most = λ slot f n h. q.most slot f n (into slot f n h);
  apart = λ slot f n g m h k. q.apart slot f n g m (into slot f n h) (into slot g m k);
  sound = sound;
}

-- ---- turns

pub record IsTurnRow (level : ℕ) (slot : SlotTree) (first count : ℕ) : Type 0 where
  pub turn : ℕ
  pub less : turn < level
  pub slot_is : slot ≡ Index turn
  pub first_is : first ≡ 0
  pub one : count ≡ 1

pub turn_rows : (IsSlot : SlotTree → Type 0) (level : ℕ) → ((turn : ℕ) → turn < level → IsSlot (Index turn)) → AreRows IsSlot (IsTurnRow level)
turn_rows IsSlot level sound = record {
  bare = λ slot f n h. ap without_field h.slot_is ∙ sym h.slot_is;
  alone = λ slot f n h e. (h.first_is, h.one);
  least = λ slot f n h. omega (arith, h.one);
  most = λ slot f n h. omega (arith, h.one);
  apart = λ slot f n g m h k. inl (h.first_is ∙ sym k.first_is, h.one ∙ sym k.one);
  sound = λ slot f n k h less. subst (λ (x : SlotTree). IsSlot (with_field x (f + k))) (sym h.slot_is) (sound h.turn h.less);
}

-- ---- of the action round a traversal

pub record IsOuterRow (R : SlotTree → ℕ → ℕ → Type 0) (slot : SlotTree) (first count : ℕ) : Type 0 where
  pub inner : SlotTree
  pub slot_is : slot ≡ Outer inner
  pub row : R inner first count

same_outer : (a b : SlotTree) → Outer a ≡ Outer b → a ≡ b
same_outer a b e = cc

pub outer_rows : (IsSlot Other : SlotTree → Type 0) (R : SlotTree → ℕ → ℕ → Type 0) → AreRows Other R → ((slot : SlotTree) → Other slot → IsSlot (Outer slot)) → AreRows IsSlot (IsOuterRow R)
outer_rows IsSlot Other R r sound = record {
  bare = λ slot f n h. ap without_field h.slot_is ∙ (ap Outer (r.bare h.inner f n h.row) ∙ sym h.slot_is);
  alone = λ slot f n h e. r.alone h.inner f n h.row (sym (ap has_field h.slot_is) ∙ e);
  least = λ slot f n h. r.least h.inner f n h.row;
  most = λ slot f n h. r.most h.inner f n h.row;
  apart = λ slot f n g m h k. r.apart h.inner f n g m h.row (subst (λ (x : SlotTree). R x g m) (same_outer k.inner h.inner (sym k.slot_is ∙ h.slot_is)) k.row);
  sound = λ slot f n k h less. subst (λ (x : SlotTree). IsSlot (with_field x (f + k))) (sym h.slot_is) (sound (with_field h.inner (f + k)) (r.sound h.inner f n k h.row less));
}

outer_row : (slot : SlotTree) (first count : ℕ) → map Outer (map (with_field slot) (counted first count)) ≡ map (with_field (Outer slot)) (counted first count)
outer_row slot first zero = refl
outer_row slot first (suc count) = ap (λ (xs : List SlotTree). Outer (with_field slot first) ∷ xs) (outer_row slot (first + 1) count)

module _ (R : SlotTree → ℕ → ℕ → Type 0) where
  outer_block : (b : List SlotTree) → IsBlock R b → IsBlock (IsOuterRow R) (map Outer b)
  outer_block b k = record { slot = Outer k.slot; first = k.first; count = k.count; row = record { inner = k.slot; slot_is = refl; row = k.row }; is = ap (map Outer) k.is ∙ outer_row k.slot k.first k.count }

  pub outer_good : (r : Reading SlotTree) → IsGood R r → IsGood (IsOuterRow R) (map_reading Outer r)
  outer_good (ANumber n) g = tt
  outer_good (AThing x) g = outer_block (x ∷ []) g
  outer_good (AnArray elements) g = outer_block elements g

-- rows of one kind among those of another
module _ (R Q : SlotTree → ℕ → ℕ → Type 0) (lift : (slot : SlotTree) (first count : ℕ) → R slot first count → Q slot first count) where
  other_block : (b : List SlotTree) → IsBlock R b → IsBlock Q b
  other_block b k = record { slot = k.slot; first = k.first; count = k.count; row = lift k.slot k.first k.count k.row; is = k.is }

  pub lifted_good : (r : Reading SlotTree) → IsGood R r → IsGood Q r
  lifted_good (ANumber n) g = tt
  lifted_good (AThing x) g = other_block (x ∷ []) g
  lifted_good (AnArray elements) g = other_block elements g
