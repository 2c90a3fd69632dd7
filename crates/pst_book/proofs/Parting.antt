-- Parts of lists that change.
use Rattle.std.proofs.Common.{◌≡◌, ◌≢◌, ◌↔◌, ℕ, ◌⊎◌, ◌+◌, ◌-◌, ◌*◌, ◌/◌, ◌%◌, ◌^◌, ◌<◌, ◌≤◌, List, length, get_or, IsTrue, refl, sym, ◌∙◌, subst, inl, inr, ⊎_elim, arith, bit_and}
use Rattle.std.specs.Prelude.{nat_eq, IsBitSet}
use Rattle.std.proofs.lemmas.Nat.{bit_set_by_shift}
use Rattle.std.proofs.lemmas.Bool.{cases_eq, cases_lt, eqb-true, eq-eqb}
use Rattle.pst_scen.specs.declared.rows.Rows.{Rows}
use Rattle.pst_scen.specs.Rows.{Has}
use Rattle.pst_book.specs.Parts.{AreChanged, AreWordChanged, IsMarked, IsRaised, IsLowered}

pub changed_none : (R : ℕ → ℕ → ℕ → Type 0) (xs : List ℕ) (first : ℕ) → AreChanged R xs xs first first
changed_none R xs first = record { inside = λ m l k. absurd (omega (arith, l, k)); outside = λ m o. refl }

-- one entry more
pub changed_one : (R : ℕ → ℕ → ℕ → Type 0) (old now new : List ℕ) (first place : ℕ) → first ≤ place → R place (get_or now place 0) (get_or new place 0) → ((m : ℕ) → m ≢ place → get_or new m 0 ≡ get_or now m 0) → AreChanged R old now first place → AreChanged R old new first (place + 1)
changed_one R old now new first place low here others c =
    record {
      inside = λ m l k. ⊎_elim
          (λ e. subst (λ v. R v (get_or old v 0) (get_or new v 0)) (sym e) (subst (λ x. R place x (get_or new place 0)) (c.outside place (inr (omega arith))) here))
          (λ n. subst (λ x. R m (get_or old m 0) x) (sym (others m n)) (c.inside m l (omega (arith, k, n)))) (cases_eq m place);
      outside = λ m o. ⊎_elim
          (λ l. others m (λ e. omega (arith, e, l, low)) ∙ c.outside m (inl l))
          (λ l. others m (λ e. omega (arith, e, l)) ∙ c.outside m (inr (omega (arith, l)))) o;
    }

-- a relation that asks for a property goes over to one that asks for another which is as true
pub raised_map : (P Q : ℕ → Type 0) (m old new : ℕ) → (P m → Q m) → (Q m → P m) → IsRaised P m old new → IsRaised Q m old new
raised_map P Q m old new f g r = record { raised = λ q. r.raised (g q); same = λ n. r.same (λ p. n (f p)) }

pub lowered_map : (P Q : ℕ → Type 0) (m old new : ℕ) → (P m → Q m) → (Q m → P m) → IsLowered P m old new → IsLowered Q m old new
lowered_map P Q m old new f g r = record { lowered = λ q. r.lowered (g q); same = λ n. r.same (λ p. n (f p)) }

-- no bit of 0 is set
pub no_bit : (word k : ℕ) → word ≡ 0 → IsBitSet word k → ⊥
no_bit word k e h = let z : IsBitSet 0 k = subst (λ w. IsBitSet w k) e h in grind (arith, z)

-- THE ENTRIES OF A WORD

abbrev pub Bits : ℕ → ℕ → Type 0
Bits word m = IsBitSet word (m % 64)

module _ (word first place end size : ℕ) (old new : List ℕ) (first_is : first ≡ place * 64) (short : end ≤ first + 64) (all : (m : ℕ) → m < size → m < first + 64 → m < end) (many : length old ≡ size) where
  low : (m : ℕ) → m / 64 ≡ place → first ≤ m
  low m e = omega (arith, e, first_is)

  high : (m : ℕ) → m / 64 ≡ place → m < first + 64
  high m e = omega (arith, e, first_is)

  bit_is : (m : ℕ) → m / 64 ≡ place → m % 64 ≡ m - first
  bit_is m e = omega (arith, e, first_is)

  aside : (m : ℕ) → m / 64 ≢ place → (m < first) ⊎ (end ≤ m)
  aside m n = ⊎_elim (λ l. inl l) (λ l. inr (⊎_elim (λ k. absurd (n (omega (arith, l, k, first_is)))) (λ k. omega (arith, k, short)) (cases_lt m (first + 64)))) (cases_lt m first)

  pub raised_word : AreChanged (IsRaised (IsMarked word first)) old new first end → AreWordChanged (IsRaised (Bits word)) old new place
  raised_word c = record {
    inside = λ m l e. raised_map (IsMarked word first) (Bits word) m (get_or old m 0) (get_or new m 0) (subst (λ b. IsBitSet word b) (sym (bit_is m e))) (subst (λ b. IsBitSet word b) (bit_is m e))
        (c.inside m (low m e) (all m (omega (arith, l, many)) (high m e)));
    outside = λ m n. c.outside m (aside m n);
  }

  pub lowered_word : AreChanged (IsLowered (IsMarked word first)) old new first end → AreWordChanged (IsLowered (Bits word)) old new place
  lowered_word c = record {
    inside = λ m l e. lowered_map (IsMarked word first) (Bits word) m (get_or old m 0) (get_or new m 0) (subst (λ b. IsBitSet word b) (sym (bit_is m e))) (subst (λ b. IsBitSet word b) (bit_is m e))
        (c.inside m (low m e) (all m (omega (arith, l, many)) (high m e)));
    outside = λ m n. c.outside m (aside m n);
  }

-- what is marked in the word stands in it
pub in_word : (word first place m : ℕ) → first ≡ place * 64 → first ≤ m → m < first + 64 → (m / 64 ≡ place) × (IsMarked word first m → Bits word m)
in_word word first place m e l k =
    let same : m / 64 ≡ place = omega (arith, e, l, k) in
    let bit : m % 64 ≡ m - first = omega (arith, e, l, k) in
    (same, λ h. subst (λ b. IsBitSet word b) (sym bit) h)

-- WORD AFTER WORD

-- the entries whose bits stand in the words before a place changed, and the others are as before
pub record AreWordsChanged (R : ℕ → ℕ → ℕ → Type 0) (old now : List ℕ) (place : ℕ) : Type 0 where
  pub done : (m : ℕ) → m < length old → m / 64 < place → R m (get_or old m 0) (get_or now m 0)
  pub rest : (m : ℕ) → place ≤ m / 64 → get_or now m 0 ≡ get_or old m 0

pub words_none : (R : ℕ → ℕ → ℕ → Type 0) (xs : List ℕ) → AreWordsChanged R xs xs 0
words_none R xs = record { done = λ m l k. absurd (omega (arith, k)); rest = λ m l. refl }

-- words without a pair
words_skip : (R : ℕ → ℕ → ℕ → Type 0) (old now : List ℕ) (place next : ℕ) → place ≤ next → ((m x : ℕ) → place ≤ m / 64 → m / 64 < next → R m x x) → AreWordsChanged R old now place → AreWordsChanged R old now next
words_skip R old now place next up same c = record {
  done = λ m l k. ⊎_elim (λ b. c.done m l b) (λ b. subst (λ x. R m (get_or old m 0) x) (sym (c.rest m b)) (same m (get_or old m 0) b k)) (cases_lt (m / 64) place);
  rest = λ m l. c.rest m (omega (arith, l, up));
}

module _ (rows : Rows) (a place next : ℕ) (up : place ≤ next) (none : (m : ℕ) → place ≤ m / 64 → m / 64 < next → Has rows a m → ⊥) (old now : List ℕ) where
  pub raised_skip : AreWordsChanged (IsRaised (Has rows a)) old now place → AreWordsChanged (IsRaised (Has rows a)) old now next
  raised_skip c = words_skip (IsRaised (Has rows a)) old now place next up (λ m x l k. record { raised = λ h. absurd (none m l k h); same = λ n. refl }) c

  pub lowered_skip : AreWordsChanged (IsLowered (Has rows a)) old now place → AreWordsChanged (IsLowered (Has rows a)) old now next
  lowered_skip c = words_skip (IsLowered (Has rows a)) old now place next up (λ m x l k. record { lowered = λ h. absurd (none m l k h); same = λ n. refl }) c

-- one word more, where the relation asks for a property that the word's bits show
words_more : (R S : ℕ → ℕ → ℕ → Type 0) (old now new : List ℕ) (place : ℕ) → length now ≡ length old → ((m x y : ℕ) → m / 64 ≡ place → S m x y → R m x y)
    → AreWordChanged S now new place → AreWordsChanged R old now place → AreWordsChanged R old new (place + 1)
words_more R S old now new place many to w c = record {
  done = λ m l k. ⊎_elim
      (λ e. to m (get_or old m 0) (get_or new m 0) e (subst (λ x. S m x (get_or new m 0)) (c.rest m (omega (arith, e))) (w.inside m (omega (arith, l, many)) e)))
      (λ n. subst (λ x. R m (get_or old m 0) x) (sym (w.outside m n)) (c.done m l (omega (arith, k, n)))) (cases_eq (m / 64) place);
  rest = λ m l. w.outside m (λ e. omega (arith, e, l)) ∙ c.rest m (omega (arith, l));
}

module _ (rows : Rows) (a word place : ℕ) (bits : (m : ℕ) → m / 64 ≡ place → Bits word m ↔ Has rows a m) (old now new : List ℕ) (many : length now ≡ length old) where
  pub raised_on : AreWordChanged (IsRaised (Bits word)) now new place → AreWordsChanged (IsRaised (Has rows a)) old now place → AreWordsChanged (IsRaised (Has rows a)) old new (place + 1)
  raised_on w c = words_more (IsRaised (Has rows a)) (IsRaised (Bits word)) old now new place many
      (λ m x y e r. raised_map (Bits word) (Has rows a) m x y (bits m e).0 (bits m e).1 r) w c

  pub lowered_on : AreWordChanged (IsLowered (Bits word)) now new place → AreWordsChanged (IsLowered (Has rows a)) old now place → AreWordsChanged (IsLowered (Has rows a)) old new (place + 1)
  lowered_on w c = words_more (IsLowered (Has rows a)) (IsLowered (Bits word)) old now new place many
      (λ m x y e r. lowered_map (Bits word) (Has rows a) m x y (bits m e).0 (bits m e).1 r) w c

-- the test of one bit of a word
pub marks : (word first m : ℕ) → IsTrue (nat_eq (bit_and (word / 2 ^ (m - first)) 1) 1) ↔ IsMarked word first m
marks word first m =
    let same = bit_set_by_shift word (m - first) in (
      λ t. same.0 (eqb-true (bit_and (word / 2 ^ (m - first)) 1) 1 t),
      λ s. eq-eqb (bit_and (word / 2 ^ (m - first)) 1) 1 (same.1 s),
    )
