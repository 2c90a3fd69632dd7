-- What a step makes of the counts of a row.
use Rattle.std.proofs.Common.{◌≡◌, ◌≢◌, ◌↔◌, ◌⊎◌, inl, inr, ⊎_elim, ℕ, ◌+◌, ◌-◌, ◌*◌, ◌/◌, ◌%◌, ◌^◌, ◌<◌, ◌≤◌, List, get_or, refl, sym, ap₂, ◌∙◌, subst, arith}
use Rattle.std.specs.Prelude.{IsBitSet}
use Rattle.std.proofs.lemmas.Bool.{cases_eq, cases_lt}
use Rattle.std.proofs.lemmas.Nat.{bit_set_by_shift}
use Rattle.std.proofs.lemmas.Nat.Bits.{shr_and_one, bit_at_ones}
use Rattle.pst_scen.specs.declared.rows.Rows.{Rows}
use Rattle.pst_scen.specs.Rows.{Has}
use Rattle.pst_book.specs.Parts.{AreChanged, IsMarked}
use Rattle.pst_book.proofs.Parting.{Bits, no_bit}
use Rattle.pst_tallies.specs.Tallies.{count_of, IsTally, IsMoved, IsWordMoved}

move_own : (x s step : ℕ) → ((x + step) % 2 ^ 32 + s) % 2 ^ 32 ≡ ((x + s) % 2 ^ 32 + step) % 2 ^ 32
move_own x s step = omega arith

move_common : (x s step : ℕ) → (x + (s + step) % 2 ^ 32) % 2 ^ 32 ≡ ((x + s) % 2 ^ 32 + step) % 2 ^ 32
move_common x s step = omega arith

-- a relation that asks for a property goes over to one that asks for another which is as true
moved_map : (step : ℕ) (P Q : ℕ → Type 0) (m old new : ℕ) → (P m → Q m) → (Q m → P m) → IsMoved step P m old new → IsMoved step Q m old new
moved_map step P Q m old new f g r = record { moved = λ q. r.moved (g q); same = λ n. r.same (λ p. n (f p)) }

-- each bit of the greatest word is set
pub all_set : (word k : ℕ) → word ≡ 2 ^ 64 - 1 → k < 64 → IsBitSet word k
all_set word k is k_in = subst (λ w. IsBitSet w k) (sym is) ((bit_set_by_shift (2 ^ 64 - 1) k).0 (shr_and_one (2 ^ 64 - 1) k ∙ bit_at_ones 64 k k_in))

module _ (size step word place : ℕ) (old new : List ℕ) (tally : IsTally size old) where
  -- the word's actions are the only ones whose counts may differ
  apart : ((m : ℕ) → m < size → m / 64 ≢ place → get_or new m 0 ≡ get_or old m 0) → ((p : ℕ) → p ≢ place → get_or new (size + p) 0 ≡ get_or old (size + p) 0) → (m : ℕ) → m < size → m / 64 ≢ place → count_of size new m ≡ count_of size old m
  apart own common m m_in n = ap₂ (λ (x y : ℕ). (x + y) % 2 ^ 32) (own m m_in n) (common (m / 64) n)

  module _ (first end : ℕ) (first_is : first ≡ place * 64) (short : end ≤ first + 64) (end_in : end ≤ size) (all : (m : ℕ) → m < size → m < first + 64 → m < end) where
    aside : (m : ℕ) → m / 64 ≢ place → (m < first) ⊎ (end ≤ m)
    aside m n = ⊎_elim (λ l. inl l) (λ l. inr (⊎_elim (λ k. absurd (n (omega (arith, l, k, first_is)))) (λ k. omega (arith, k, short)) (cases_lt m (first + 64)))) (cases_lt m first)

    pub moved_part : AreChanged (IsMoved step (IsMarked word first)) old new first end → IsWordMoved size step (Bits word) old new place
    moved_part c = record { inside = here; outside = apart (λ m m_in n. c.outside m (aside m n)) (λ p n. c.outside (size + p) (inr (omega (arith, end_in)))) }
      where
        here : (m : ℕ) → m < size → m / 64 ≡ place → IsMoved step (Bits word) m (count_of size old m) (count_of size new m)
        here m m_in e =
            let bit : m % 64 ≡ m - first = omega (arith, e, first_is) in
            let own : IsMoved step (IsMarked word first) m (get_or old m 0) (get_or new m 0) = c.inside m (omega (arith, e, first_is)) (all m m_in (omega (arith, e, first_is))) in
            let common : get_or new (size + m / 64) 0 ≡ get_or old (size + m / 64) 0 = c.outside (size + m / 64) (inr (omega (arith, end_in))) in
            record {
              moved = λ set. ap₂ (λ (x y : ℕ). (x + y) % 2 ^ 32) (own.moved (subst (λ b. IsBitSet word b) bit set)) common ∙ move_own (get_or old m 0) (get_or old (size + m / 64) 0) step;
              same = λ n. ap₂ (λ (x y : ℕ). (x + y) % 2 ^ 32) (own.same (λ set. n (subst (λ b. IsBitSet word b) (sym bit) set))) common;
            }

  -- the common entry of a word of which each bit is set
  pub moved_whole : word ≡ 2 ^ 64 - 1 → get_or new (size + place) 0 ≡ (get_or old (size + place) 0 + step) % 2 ^ 32 → ((i : ℕ) → i ≢ size + place → get_or new i 0 ≡ get_or old i 0) → IsWordMoved size step (Bits word) old new place
  moved_whole is at others = record { inside = here; outside = apart (λ m m_in n. others m (λ e. omega (arith, e, m_in))) (λ p n. others (size + p) (λ e. n (omega (arith, e)))) }
    where
      here : (m : ℕ) → m < size → m / 64 ≡ place → IsMoved step (Bits word) m (count_of size old m) (count_of size new m)
      here m m_in e =
          let own : get_or new m 0 ≡ get_or old m 0 = others m (λ q. omega (arith, q, m_in)) in
          let common : get_or new (size + m / 64) 0 ≡ (get_or old (size + m / 64) 0 + step) % 2 ^ 32 =
          subst (λ (p : ℕ). get_or new (size + p) 0 ≡ (get_or old (size + p) 0 + step) % 2 ^ 32) (sym e) at in
          record {
            moved = λ set. ap₂ (λ (x y : ℕ). (x + y) % 2 ^ 32) own common ∙ move_common (get_or old m 0) (get_or old (size + m / 64) 0) step;
            same = λ n. absurd (n (all_set word (m % 64) is (omega arith)));
          }

-- a word without bits
pub moved_none : (size step word place : ℕ) (tally : List ℕ) → word ≡ 0 → IsWordMoved size step (Bits word) tally tally place
moved_none size step word place tally none = record { inside = λ m m_in e. record { moved = λ set. absurd (no_bit word (m % 64) none set); same = λ n. refl }; outside = λ m m_in n. refl }

-- ---- one word after another

-- the counts of the actions in the words before a place have gone on, and the others are as before
pub record AreWordsMoved (size step : ℕ) (P : ℕ → Type 0) (old now : List ℕ) (place : ℕ) : Type 0 where
  pub done : (m : ℕ) → m < size → m / 64 < place → IsMoved step P m (count_of size old m) (count_of size now m)
  pub rest : (m : ℕ) → m < size → place ≤ m / 64 → count_of size now m ≡ count_of size old m

pub words_start : (size step : ℕ) (P : ℕ → Type 0) (tally : List ℕ) → AreWordsMoved size step P tally tally 0
words_start size step P tally = record { done = λ m m_in l. absurd (omega (arith, l)); rest = λ m m_in l. refl }

module _ (rows : Rows) (a word place step : ℕ) (bits : (m : ℕ) → m / 64 ≡ place → Bits word m ↔ Has rows a m) (old now new : List ℕ) where
  abbrev size : ℕ
  size = rows.size

  pub words_more : IsWordMoved size step (Bits word) now new place → AreWordsMoved size step (Has rows a) old now place → AreWordsMoved size step (Has rows a) old new (place + 1)
  words_more w c = record {
    done = λ m m_in l. ⊎_elim
        (λ e. subst (λ x. IsMoved step (Has rows a) m x (count_of size new m)) (c.rest m m_in (omega (arith, e)))
        (moved_map step (Bits word) (Has rows a) m (count_of size now m) (count_of size new m) (bits m e).0 (bits m e).1 (w.inside m m_in e)))
        (λ n. subst (λ x. IsMoved step (Has rows a) m (count_of size old m) x) (sym (w.outside m m_in n)) (c.done m m_in (omega (arith, l, n)))) (cases_eq (m / 64) place);
    rest = λ m m_in l. w.outside m m_in (λ e. omega (arith, e, l)) ∙ c.rest m m_in (omega (arith, l));
  }
