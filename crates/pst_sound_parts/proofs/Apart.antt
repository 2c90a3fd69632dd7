-- Ranges that have no number in common, and bits that a number of 64 bits doesn't have.
use Rattle.std.proofs.Common.{◌≡◌, ◌<◌, ◌≤◌, ◌*◌, ◌%◌, ◌^◌, ◌⊎◌, inl, inr, ℕ, ℤ, ◌≤ℤ◌, ◌<ℤ◌, int_lt, Bool, true, false, bit_and, IsBitSet, refl, ap, ◌∙◌, arith}
use Rattle.std.proofs.lemmas.Int.{ints}
use Rattle.std.proofs.lemmas.Bool.{cases_lt}
use Rattle.std.proofs.lemmas.Nat.Bits.{and_pow}
use Rattle.std.proofs.Math.Pow.{pow_mono}
use Rattle.std.proofs.Math.Nat.{div-eq_of_lt}
use Rattle.pst_expr.specs.declared.ranges.Span.{Span}
use Rattle.pst_model.specs.SoundActivity.{AreApart}

-- ---- ranges

pub apart_after : (s t : Span) → s.high <ℤ t.low → AreApart s t
apart_after s t h = λ v of_s of_t. let low = of_t.0 in let high = of_s.1 in omega (arith, ints, low, high)

pub apart_before : (s t : Span) → t.high <ℤ s.low → AreApart s t
apart_before s t h = λ v of_s of_t. let low = of_s.0 in let high = of_t.1 in omega (arith, ints, low, high)

pub apart_empty : (s t : Span) → s.high <ℤ s.low → AreApart s t
apart_empty s t h = λ v of_s of_t. let low = of_s.0 in let high = of_s.1 in omega (arith, ints, low, high)

pub apart_from_empty : (s t : Span) → t.high <ℤ t.low → AreApart s t
apart_from_empty s t h = λ v of_s of_t. let low = of_t.0 in let high = of_t.1 in omega (arith, ints, low, high)

le_or_lt : (a b : ℤ) → (a ≤ℤ b) ⊎ (b <ℤ a)
le_or_lt a b = go (int_lt b a) refl
  where
    go : (c : Bool) → int_lt b a ≡ c → (a ≤ℤ b) ⊎ (b <ℤ a)
    go true e = inr (omega (arith, ints, e))
    go false e = inl (omega (arith, ints, e))

-- two ranges that aren't empty, and of which none lies behind the other, meet
pub apart_ends : (s t : Span) → t.low ≤ℤ s.high → s.low ≤ℤ t.high → s.low ≤ℤ s.high → AreApart s t → t.high <ℤ t.low
apart_ends s t first second some apart = go (le_or_lt t.low t.high) (le_or_lt s.low t.low)
  where
    go : (t.low ≤ℤ t.high) ⊎ (t.high <ℤ t.low) → (s.low ≤ℤ t.low) ⊎ (t.low <ℤ s.low) → t.high <ℤ t.low
    go (inr empty) below = empty
    go (inl full) (inl below) = absurd (apart t.low (below, first) (omega (arith, ints), full))
    go (inl full) (inr above) = absurd (apart s.low (omega (arith, ints), some) (omega (arith, ints, above), second))

-- ---- bits

pub no_high_bit : (n k : ℕ) → n < 2 ^ 64 → 64 ≤ k → bit_and n (2 ^ k) ≡ 0
no_high_bit n k small high =
    let more : 2 ^ 64 ≤ 2 ^ k = pow_mono high in
    let below : n < 2 ^ k = omega (arith, more, small) in
    and_pow n k ∙ ap (λ m. m % 2 * 2 ^ k) (div-eq_of_lt below) ∙ omega arith

-- no bit from n up to 63 is set, so the set bits are below n
pub bits_below : (bits n : ℕ) → bits < 2 ^ 64 → ((k : ℕ) → n ≤ k → k < 64 → IsBitSet bits k → ⊥) → (k : ℕ) → IsBitSet bits k → k < n
bits_below bits n small clear k set = go (cases_lt k n) (cases_lt k 64)
  where
    go : (k < n) ⊎ (n ≤ k) → (k < 64) ⊎ (64 ≤ k) → k < n
    go (inl below) within = below
    go (inr above) (inl within) = absurd (clear k above within set)
    go (inr above) (inr beyond) = absurd (set (no_high_bit bits k small beyond))
