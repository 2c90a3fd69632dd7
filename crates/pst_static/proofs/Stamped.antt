-- Parts of lists at which a value is written.
use Rattle.std.proofs.Common.{◌≡◌, ◌≢◌, ◌↔◌, ℕ, ◌⊎◌, ◌+◌, ◌-◌, ◌*◌, ◌/◌, ◌%◌, ◌^◌, ◌<◌, ◌≤◌, List, length, get_or, refl, sym, ◌∙◌, subst, inl, inr, ⊎_elim, arith}
use Rattle.std.specs.Prelude.{IsBitSet}
use Rattle.std.proofs.lemmas.Bool.{cases_eq, cases_lt}
use Rattle.pst_scen.specs.declared.rows.Rows.{Rows}
use Rattle.pst_scen.specs.Rows.{Has}
use Rattle.pst_book.specs.Parts.{AreChanged, AreWordChanged, IsMarked}
use Rattle.pst_book.proofs.Parting.{Bits, AreWordsChanged}
use Rattle.pst_scen.specs.Plan.{Entries}
use Rattle.pst_book.proofs.Ties.{has_or}
use Rattle.pst_tallies.proofs.Moving.{all_set}
use Rattle.pst_static.specs.Stamps.{IsStamped, AreStamped, AreStampedByPlan}

-- a relation that asks for a property goes over to one that asks for another which is as true
stamped_map : (value : ℕ) (P Q : ℕ → Type 0) (m old new : ℕ) → (P m → Q m) → (Q m → P m) → IsStamped value P m old new → IsStamped value Q m old new
stamped_map value P Q m old new f g r = record { stamped = λ q. r.stamped (g q); same = λ n. r.same (λ p. n (f p)) }

module _ (value word first place end size : ℕ) (old new : List ℕ) (first_is : first ≡ place * 64) (short : end ≤ first + 64) (all : (m : ℕ) → m < size → m < first + 64 → m < end) (many : length old ≡ size) where
  low : (m : ℕ) → m / 64 ≡ place → first ≤ m
  low m e = omega (arith, e, first_is)

  high : (m : ℕ) → m / 64 ≡ place → m < first + 64
  high m e = omega (arith, e, first_is)

  bit_is : (m : ℕ) → m / 64 ≡ place → m % 64 ≡ m - first
  bit_is m e = omega (arith, e, first_is)

  aside : (m : ℕ) → m / 64 ≢ place → (m < first) ⊎ (end ≤ m)
  aside m n = ⊎_elim (λ l. inl l) (λ l. inr (⊎_elim (λ k. absurd (n (omega (arith, l, k, first_is)))) (λ k. omega (arith, k, short)) (cases_lt m (first + 64)))) (cases_lt m first)

  pub stamped_word : AreChanged (IsStamped value (IsMarked word first)) old new first end → AreWordChanged (IsStamped value (Bits word)) old new place
  stamped_word c = record {
    inside = λ m l e. stamped_map value (IsMarked word first) (Bits word) m (get_or old m 0) (get_or new m 0) (subst (λ b. IsBitSet word b) (sym (bit_is m e))) (subst (λ b. IsBitSet word b) (bit_is m e))
        (c.inside m (low m e) (all m (omega (arith, l, many)) (high m e)));
    outside = λ m n. c.outside m (aside m n);
  }

  -- a word of which each bit is set
  pub stamped_whole : word ≡ 2 ^ 64 - 1 → AreChanged (λ m x y. y ≡ value) old new first end → AreWordChanged (IsStamped value (Bits word)) old new place
  stamped_whole is c = record {
    inside = λ m l e. record { stamped = λ set. c.inside m (low m e) (all m (omega (arith, l, many)) (high m e)); same = λ n. absurd (n (all_set word (m % 64) is (omega arith))) };
    outside = λ m n. c.outside m (aside m n);
  }

module _ (rows : Rows) (a value place next : ℕ) (up : place ≤ next) (none : (m : ℕ) → place ≤ m / 64 → m / 64 < next → Has rows a m → ⊥) (old now : List ℕ) where
  pub stamped_skip : AreWordsChanged (IsStamped value (Has rows a)) old now place → AreWordsChanged (IsStamped value (Has rows a)) old now next
  stamped_skip c = record {
    done = λ m l k. ⊎_elim (λ b. c.done m l b)
        (λ b. subst (λ x. IsStamped value (Has rows a) m (get_or old m 0) x) (sym (c.rest m b)) (record { stamped = λ h. absurd (none m b k h); same = λ n. refl })) (cases_lt (m / 64) place);
    rest = λ m l. c.rest m (omega (arith, l, up));
  }

module _ (rows : Rows) (a value word place : ℕ) (bits : (m : ℕ) → m / 64 ≡ place → Bits word m ↔ Has rows a m) (old now new : List ℕ) (many : length now ≡ length old) where
  pub stamped_on : AreWordChanged (IsStamped value (Bits word)) now new place → AreWordsChanged (IsStamped value (Has rows a)) old now place → AreWordsChanged (IsStamped value (Has rows a)) old new (place + 1)
  stamped_on w c = record {
    done = λ m l k. ⊎_elim
        (λ e. stamped_map value (Bits word) (Has rows a) m (get_or old m 0) (get_or new m 0) (bits m e).0 (bits m e).1
        (subst (λ x. IsStamped value (Bits word) m x (get_or new m 0)) (c.rest m (omega (arith, e))) (w.inside m (omega (arith, l, many)) e)))
        (λ n. subst (λ x. IsStamped value (Has rows a) m (get_or old m 0) x) (sym (w.outside m n)) (c.done m l (omega (arith, k, n)))) (cases_eq (m / 64) place);
    rest = λ m l. w.outside m (λ e. omega (arith, e, l)) ∙ c.rest m (omega (arith, l));
  }

-- both squares
pub stamped_both : (p : Entries) (a value : ℕ) (old now new : List ℕ) → AreStamped p.must a value old now → AreStamped p.conflict a value now new → AreStampedByPlan p a value old new
stamped_both p a value old now new first second =
    let n = first.many in
    record {
      many = second.many ∙ first.many;
      stamped = λ m l q. ⊎_elim (λ h. second.stamped m (omega (arith, l, n)) h)
          (λ none. second.same m (omega (arith, l, n)) none ∙ first.stamped m l (⊎_elim (λ h. h) (λ h. absurd (none h)) q)) (has_or p.conflict a m);
      same = λ m l none. second.same m (omega (arith, l, n)) (λ h. none (inr h)) ∙ first.same m l (λ h. none (inl h));
    }
