-- Operations on the bits of spans follow those of values.
use Rattle.std.proofs.Common.{◌≡◌, ⊎_elim, ℕ, suc, ◌-◌, ◌^◌, ◌<◌, ◌≤◌, ℤ, pos, negsuc, ◌≤ℤ◌, int_le, Bool, true, false, cond, ◌&&◌, Option, Some, w64, bit_and, bit_or, bit_xor, arith, refl, sym, ap, subst}
use Rattle.std.specs.Int.{int_min, int_max, int_bit_and}
use Rattle.std.proofs.lemmas.Int.{ints, clamps, to_z_pos}
use Rattle.std.proofs.lemmas.Bool.{and_parts, cases_lt}
use Rattle.std.proofs.lemmas.Nat.{and_le_l, and_le_r, or_lt, xor_lt}
use Rattle.std.proofs.Math.Pow.{pow_mono}
use Rattle.std.proofs.Math.Nat.{pow-suc}
use Rattle.pst_num.specs.Range.{least, greatest}
use Rattle.pst_num.specs.Bits.{bits_and, bits_or, bits_xor}
use Rattle.pst_expr.specs.declared.ranges.Span.{Span}
use Rattle.pst_expr.specs.Spans.{IsInSpan}
use Rattle.pst_domain.specs.Bounds.{Holds, IsInside}
use Rattle.pst_domain.specs.Bits.{binary_digits, bits_within, and_span, or_span, ones_of, all_ones}
use Rattle.pst_domain.proofs.Decisions.{by_le, le_test}
use Rattle.pst_domain.proofs.BitsCode.{digits_are}
use Rattle.pst_domain.proofs.CutLaws.{IsSane, whole_sane, inside_whole}
use Rattle.pst_domain.proofs.Lawful.{IsLawful}
use Rattle.pst_domain.proofs.PointLaws.{points_lawful}
use Rattle.pst_domain.proofs.ShiftLaws.{held_by_whole}

abbrev pub from_0 : ℤ → Span
from_0 bound = record { low = pos 0; high = bound }

within_cases : (P : Span → Type 0) (s t : Span) (bound : ℤ) → (pos 0 ≤ℤ s.low → pos 0 ≤ℤ t.low → P (from_0 bound)) → ((pos 0 ≤ℤ s.low → pos 0 ≤ℤ t.low → ⊥) → P (record { low = least; high = greatest })) → P (bits_within s t bound)
within_cases P s t bound inside others = go (int_le (pos 0) s.low && int_le (pos 0) t.low) refl
  where
    go : (b : Bool) → (int_le (pos 0) s.low && int_le (pos 0) t.low) ≡ b → P (cond b (from_0 bound) (record { low = least; high = greatest }))
    go true e = let p = and_parts (int_le (pos 0) s.low) (int_le (pos 0) t.low) e in inside (by_le _ _ p.0) (by_le _ _ p.1)
    go false e = others (λ h k. let both : (int_le (pos 0) s.low && int_le (pos 0) t.low) ≡ true = rw (le_test (pos 0) s.low h, le_test (pos 0) t.low k) refl in cc)

-- a bound on what an operation on bits gives without negative numbers
record IsBound (f : ℤ → ℤ → Option ℤ) (bound : Span → Span → ℤ) : Type 0 where
  holds : (s t : Span) (x y : ℤ) → IsSane s → IsSane t → IsInSpan x s → IsInSpan y t → pos 0 ≤ℤ s.low → pos 0 ≤ℤ t.low → Holds (Some (from_0 (bound s t))) (f x y)
  orders : (s t s' t' : Span) → IsSane s → IsSane t → IsSane s' → IsSane t' → s'.high ≤ℤ s.high → t'.high ≤ℤ t.high → bound s' t' ≤ℤ bound s t
  sane : (s t : Span) → IsSane s → IsSane t → pos 0 ≤ℤ s.low → pos 0 ≤ℤ t.low → IsSane (from_0 (bound s t))

module _ (f : ℤ → ℤ → Option ℤ) (bound : Span → Span → ℤ) (is : IsBound f bound) where
  within_sane : (s t : Span) → IsSane s → IsSane t → IsSane (bits_within s t (bound s t))
  within_sane s t p q = within_cases IsSane s t (bound s t) (λ h k. is.sane s t p q h k) (λ o. whole_sane)

  within_lawful : IsLawful f (λ s t. Some (bits_within s t (bound s t)))
  within_lawful = record {
    holds = λ s t x y p q h k i.
        within_cases (λ r. Holds (Some r) (f x y)) s t (bound s t)
        (λ a b. is.holds s t x y p q h k a b)
        (λ o. held_by_whole (f x y) i);
    inside = λ s t s' t' p q p' q' h k.
        within_cases (λ r. IsInside (Some (bits_within s' t' (bound s' t'))) (Some r)) s t (bound s t)
        (λ a b.
        within_cases (λ r. IsInside (Some r) (Some (from_0 (bound s t)))) s' t' (bound s' t')
        (λ a' b'. (omega (arith, ints), is.orders s t s' t' p q p' q' h.1 k.1))
        (λ o. absurd (o (omega (arith, ints, h.0)) (omega (arith, ints, k.0)))))
        (λ o. inside_whole (bits_within s' t' (bound s' t')) (within_sane s' t' p' q'));
    sane = within_sane;
  }

-- ---- the numbers that aren't negative

and_within : (s t : Span) (x y : ℤ) → IsSane s → IsSane t → IsInSpan x s → IsInSpan y t → pos 0 ≤ℤ s.low → pos 0 ≤ℤ t.low → Holds (Some (from_0 (int_min s.high t.high))) (bits_and x y)
and_within s t (pos a) (pos b) p q h k l m =
    let small : bit_and a b < 2 ^ 63 = omega (arith, ints, and_le_l a b, h.1, p.to_greatest) in
    let is : int_bit_and w64 (pos a) (pos b) ≡ pos (bit_and a b) = to_z_pos w64 (bit_and a b) small in
    subst (λ v. Holds (Some (from_0 (int_min s.high t.high))) (Some v)) (sym is)
    (omega (arith, ints), omega (arith, ints, clamps, and_le_l a b, and_le_r a b, h.1, k.1))
and_within s t (negsuc a) y p q h k l m = absurd (omega (arith, ints, h.0))
and_within s t (pos a) (negsuc b) p q h k l m = absurd (omega (arith, ints, k.0))

and_bound : IsBound bits_and (λ s t. int_min s.high t.high)
and_bound = record {
  holds = and_within;
  orders = λ s t s' t' p q p' q' h k. omega (arith, ints, clamps);
  sane = λ s t p q h k. record { from_least = omega (arith, ints); upright = omega (arith, ints, clamps, p.upright, q.upright); to_greatest = omega (arith, ints, clamps, p.to_greatest) };
}

pub and_lawful : IsLawful bits_and and_span
and_lawful = points_lawful bits_and (λ s t. Some (bits_within s t (int_min s.high t.high))) (within_lawful bits_and (λ a b. int_min a.high b.high) and_bound)

-- ---- as many digits as a number has

-- 2^k - 1 for the digits of n
abbrev pub ones : ℕ → ℕ
ones n = 2 ^ binary_digits n - 1

below_power : (j k : ℕ) → 2 ^ j < 2 ^ k → j < k
below_power j k h = ⊎_elim (λ l. l) (λ m. let p : 2 ^ k ≤ 2 ^ j = pow_mono m in absurd (omega arith)) (cases_lt j k)

module _ (n : ℕ) (h : n < 2 ^ 63) where
  few_digits : binary_digits n ≤ 63
  few_digits =
      let d = digits_are n (omega arith) in
      let below : d.0 < 64 = below_power d.0 64 (omega (arith, d.3)) in
      omega (arith, d.1)

  pub n_below : n < 2 ^ binary_digits n
  n_below = let d = digits_are n (omega arith) in subst (λ m. n < 2 ^ m) (sym d.1) d.2

  pub power_small : 2 ^ binary_digits n ≤ 2 ^ 63
  power_small = pow_mono few_digits

  pub more_digits : (m : ℕ) → m ≤ n → 2 ^ binary_digits m ≤ 2 ^ binary_digits n
  more_digits m k =
      let d = digits_are n (omega arith) in
      let d' = digits_are m (omega arith) in
      let next = pow-suc 2 d.0 in
      let below : d'.0 < suc d.0 = below_power d'.0 (suc d.0) (omega (arith, d'.3, d.2, next)) in
      pow_mono (omega (arith, d.1, d'.1))

ones_ordered : (y z : ℤ) → y ≤ℤ z → z ≤ℤ greatest → ones_of y ≤ℤ ones_of z
ones_ordered (pos m) (pos n) h k = omega (arith, ints, more_digits n (omega (arith, ints)) m (omega (arith, ints)))
ones_ordered (pos m) (negsuc n) h k = absurd (omega (arith, ints))
ones_ordered (negsuc m) (pos n) h k = omega (arith, ints)
ones_ordered (negsuc m) (negsuc n) h k = omega (arith, ints)

ones_at_most : (z : ℤ) → z ≤ℤ greatest → ones_of z ≤ℤ greatest
ones_at_most (pos n) k = omega (arith, ints, power_small n (omega (arith, ints)))
ones_at_most (negsuc n) k = omega (arith, ints)

ones_from_zero : (z : ℤ) → pos 0 ≤ℤ ones_of z
ones_from_zero (pos n) = omega (arith, ints)
ones_from_zero (negsuc n) = omega (arith, ints)

-- an operation whose results have no more digits than the operands
module _ (f : ℤ → ℤ → Option ℤ) (g : ℕ → ℕ → ℕ) where
  abbrev pub KeepsDigits : Type 0
  KeepsDigits = (k a b : ℕ) → a < 2 ^ k → b < 2 ^ k → (g a b < 2 ^ k) × (k ≤ 63 → f (pos a) (pos b) ≡ Some (pos (g a b)))

  module _ (keeps : KeepsDigits) where
    digits_within : (z : ℤ) (a b : ℕ) → z ≤ℤ greatest → pos a ≤ℤ z → pos b ≤ℤ z → Holds (Some (from_0 (ones_of z))) (f (pos a) (pos b))
    digits_within (pos n) a b h k l =
        let small : n < 2 ^ 63 = omega (arith, ints) in
        let result = keeps (binary_digits n) a b (omega (arith, ints, n_below n small)) (omega (arith, ints, n_below n small)) in
        subst (λ v. Holds (Some (from_0 (ones_of (pos n)))) v) (sym (result.1 (few_digits n small))) (omega (arith, ints), omega (arith, ints, result.0))
    digits_within (negsuc n) a b h k l = absurd (omega (arith, ints))

    ones_hold : (s t : Span) (x y : ℤ) → IsSane s → IsSane t → IsInSpan x s → IsInSpan y t → pos 0 ≤ℤ s.low → pos 0 ≤ℤ t.low → Holds (Some (from_0 (all_ones s t))) (f x y)
    ones_hold s t (pos a) (pos b) p q h k l m =
        digits_within (int_max s.high t.high) a b (omega (arith, ints, clamps, p.to_greatest, q.to_greatest)) (omega (arith, ints, clamps, h.1)) (omega (arith, ints, clamps, k.1))
    ones_hold s t (negsuc a) y p q h k l m = absurd (omega (arith, ints, h.0))
    ones_hold s t (pos a) (negsuc b) p q h k l m = absurd (omega (arith, ints, k.0))

    ones_bound : IsBound f all_ones
    ones_bound = record {
      holds = ones_hold;
      orders = λ s t s' t' p q p' q' h k.
          ones_ordered (int_max s'.high t'.high) (int_max s.high t.high) (omega (arith, ints, clamps)) (omega (arith, ints, clamps, p.to_greatest, q.to_greatest));
      sane = λ s t p q h k.
          let from = ones_from_zero (int_max s.high t.high) in
          record { from_least = omega (arith, ints); upright = from; to_greatest = ones_at_most (int_max s.high t.high) (omega (arith, ints, clamps, p.to_greatest, q.to_greatest)) };
    }

    pub ones_lawful : IsLawful f (or_span f)
    ones_lawful = points_lawful f (λ s t. Some (bits_within s t (all_ones s t))) (within_lawful f all_ones ones_bound)

small_power : (k n : ℕ) → n < 2 ^ k → k ≤ 63 → n < 2 ^ 63
small_power k n h l = let p : 2 ^ k ≤ 2 ^ 63 = pow_mono l in omega arith

pub or_lawful : IsLawful bits_or (or_span bits_or)
or_lawful = ones_lawful bits_or bit_or (λ k a b h l. let below = or_lt k a b h l in (below, λ few. ap Some (to_z_pos w64 (bit_or a b) (small_power k (bit_or a b) below few))))

pub xor_lawful : IsLawful bits_xor (or_span bits_xor)
xor_lawful = ones_lawful bits_xor bit_xor (λ k a b h l. let below = xor_lt k a b h l in (below, λ few. ap Some (to_z_pos w64 (bit_xor a b) (small_power k (bit_xor a b) below few))))
