-- The lowest bit of a word, and the bits of a row from one on.
use Rattle.std.proofs.Common.{◌≡◌, ◌↔◌, ⊎_elim, ◌<◌, ◌≤◌, ◌+◌, ◌*◌, ◌/◌, ◌%◌, ◌^◌, ◌-◌, ℕ, List, get_or, sym, ap, subst, ◌∙◌, arith}
use Rattle.std.specs.Prelude.{IsBitSet, Option, None, Some, MatchOption}
use Rattle.std.specs.Int.{bit_at, trailing_zeros, w64}
use Rattle.std.proofs.lemmas.Bool.{cases_lt}
use Rattle.std.proofs.lemmas.Nat.{shr-shr}
use Rattle.std.proofs.lemmas.Nat.Bits.{bit_at_above, bit_at-trailing_zeros}
use Rattle.pst_square.specs.Bits.{HasBit}
use Rattle.pst_square.specs.Next.{IsNextOf, IsLowest}
use Rattle.pst_square.proofs.Joins.{set_is_one}

shifted_bit : (word j k : ℕ) → bit_at (word / 2 ^ j) k ≡ bit_at word (j + k)
shifted_bit word j k = ap (λ x. x % 2) (shr-shr word j k)

pub shifted_set : (word j k : ℕ) → IsBitSet (word / 2 ^ j) k ↔ IsBitSet word (j + k)
shifted_set word j k = (
  λ s. (set_is_one word (j + k)).1 (sym (shifted_bit word j k) ∙ (set_is_one (word / 2 ^ j) k).0 s),
  λ s. (set_is_one (word / 2 ^ j) k).1 (shifted_bit word j k ∙ (set_is_one word (j + k)).0 s),
)

-- a word of 64 bits has no bit from 64 on
pub high_free : (word k : ℕ) → word < 2 ^ 64 → 64 ≤ k → IsBitSet word k → ⊥
high_free word k small high s = let one = (set_is_one word k).0 s in let none = bit_at_above word 64 k small high in omega (arith, one, none)

pub shifted_has : (word bit k : ℕ) → word < 2 ^ 64 → IsBitSet (word / 2 ^ bit) k ↔ (bit + k < 64) × IsBitSet word (bit + k)
shifted_has word bit k small = (there, λ h. (shifted_set word bit k).1 h.1)
  where
    there : IsBitSet (word / 2 ^ bit) k → (bit + k < 64) × IsBitSet word (bit + k)
    there s =
        let set = (shifted_set word bit k).0 s in
        ⊎_elim (λ less. (less, set)) (λ high. absurd (high_free word (bit + k) small high set)) (cases_lt (bit + k) 64)

-- a bit of the word of one pair is that of a later pair of the row
pub moved_bit : (words : List ℕ) (row a b k : ℕ) → b % 64 + k < 64 → IsBitSet (get_or words (a * row + b / 64) 0) (b % 64 + k) ↔ HasBit row words a (b + k)
moved_bit words row a b k less =
    let quotient : b / 64 ≡ (b + k) / 64 = omega (arith, less) in
    let bit : b % 64 + k ≡ (b + k) % 64 = omega (arith, less) in (
      λ s. subst (λ (q : ℕ). IsBitSet (get_or words (a * row + q) 0) ((b + k) % 64)) quotient (subst (λ (r : ℕ). IsBitSet (get_or words (a * row + b / 64) 0) r) bit s),
      λ s. subst (λ (r : ℕ). IsBitSet (get_or words (a * row + b / 64) 0) r) (sym bit) (subst (λ (q : ℕ). IsBitSet (get_or words (a * row + q) 0) ((b + k) % 64)) (sym quotient) s),
    )

pub rest_has : (words : List ℕ) (row a b rest : ℕ) → ((k : ℕ) → IsBitSet rest k ↔ (b % 64 + k < 64) × IsBitSet (get_or words (a * row + b / 64) 0) (b % 64 + k))
    → (k : ℕ) → IsBitSet rest k ↔ (b % 64 + k < 64) × HasBit row words a (b + k)
rest_has words row a b rest is k = (
  λ s. let h = (is k).0 s in (h.0, (moved_bit words row a b k h.0).0 h.1),
  λ h. (is k).1 (h.0, (moved_bit words row a b k h.0).1 h.1),
)

-- no number of the range, below that one, has the property
abbrev pub HoldsNowhere : (ℕ → Type 0) → (ℕ → Type 0) → ℕ → Type 0
HoldsNowhere InRange P to = (b : ℕ) → InRange b → b < to → P b → ⊥

module _ (InRange P : ℕ → Type 0) (at rest : ℕ) (before : HoldsNowhere InRange P at) (is : (k : ℕ) → IsBitSet rest k ↔ (at % 64 + k < 64) × P (at + k)) where
  next_below : (k : ℕ) → IsLowest rest k → HoldsNowhere InRange P (at + k)
  next_below k h c low high has = ⊎_elim (λ less. before c low less has) here (cases_lt c at)
    where
      here : at ≤ c → ⊥
      here more =
          let fits = ((is k).0 h.set).0 in
          let same : at + (c - at) ≡ c = omega (arith, more) in
          let less : c - at < k = omega (arith, more, high) in
          h.none (c - at) less ((is (c - at)).1 (omega (arith, fits, less), subst P (sym same) has))

  pub next_word : ((k : ℕ) → IsBitSet rest k → ⊥) → HoldsNowhere InRange P (at + (64 - at % 64))
  next_word none c low high has = ⊎_elim (λ less. before c low less has) here (cases_lt c at)
    where
      here : at ≤ c → ⊥
      here more =
          let same : at + (c - at) ≡ c = omega (arith, more) in
          let fits : at % 64 + (c - at) < 64 = omega (arith, more, high) in
          none (c - at) ((is (c - at)).1 (fits, subst P (sym same) has))

  pub next_found : (size k : ℕ) (result : Option ℕ) → ((b : ℕ) → at ≤ b → InRange b) → IsLowest rest k → MatchOption result (size ≤ at + k) (λ n. (n ≡ at + k) × (at + k < size)) → MatchOption result (HoldsNowhere InRange P size) (IsNextOf InRange P size)
  next_found size k None on h out = λ c low inside. next_below k h c low (omega (arith, inside, out))
  next_found size k (Some n) on h is_n =
      let same = is_n.0 in
      subst (λ (x : ℕ). IsNextOf InRange P size x) (sym same)
      (record { behind = on (at + k) (omega arith); inside = is_n.1; has = ((is k).0 h.set).1; none = next_below k h })

pub lowest_bit : (word : ℕ) → word < 2 ^ 64 → (word ≡ 0 → ⊥) → IsLowest word (trailing_zeros w64 word)
lowest_bit word small some =
    let at = bit_at-trailing_zeros w64 word (omega (arith, some)) small in
    record {
      set = (set_is_one word (trailing_zeros w64 word)).1 at.1;
      none = λ k less s. let one = (set_is_one word k).0 s in let none = at.2 k less in omega (arith, one, none);
    }

-- the least number from the next one on is the least one behind
pub behind_is : (P : ℕ → Type 0) (after size : ℕ) (result : Option ℕ) → MatchOption result ((b : ℕ) → after + 1 ≤ b → b < size → P b → ⊥) (IsNextOf (λ b. after + 1 ≤ b) P size)
    → MatchOption result ((b : ℕ) → after < b → b < size → P b → ⊥) (IsNextOf (λ b. after < b) P size)
behind_is P after size None h = λ b low inside has. h b (omega (arith, low)) inside has
behind_is P after size (Some n) h =
    record { behind = let low = h.behind in omega (arith, low); inside = h.inside; has = h.has; none = λ c low less has. h.none c (omega (arith, low)) less has }
