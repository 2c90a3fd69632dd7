-- Remainders of spans follow those of values.
use Rattle.std.proofs.Common.{◌≡◌, ◌⊎◌, inl, inr, ℕ, suc, ◌<◌, ◌≤◌, max, ℤ, pos, negsuc, neg_ℤ, ◌≤ℤ◌, ◌<ℤ◌, int_rem, int_lt, nat_abs, Bool, true, false, cond, Option, Some, None, arith, refl, sym, subst}
use Rattle.std.specs.Int.{int_min, int_max}
use Rattle.std.specs.Ordering.{int_eq}
use Rattle.std.proofs.lemmas.Int.{ints, clamps, rem_below}
use Rattle.std.proofs.lemmas.Bool.{and_parts}
use Rattle.std.proofs.Math.Nat.{mod-le}
use Rattle.pst_num.specs.Range.{in_range}
use Rattle.pst_num.specs.Arithmetic.{remainder_of}
use Rattle.pst_expr.specs.declared.ranges.Span.{Span}
use Rattle.pst_expr.specs.Spans.{IsInSpan}
use Rattle.pst_domain.specs.Bounds.{Holds, IsInside}
use Rattle.pst_domain.specs.Cut.{cut}
use Rattle.pst_domain.specs.Truth.{is_zero}
use Rattle.pst_domain.specs.Arithmetic.{remainder_span, greatest_remainder, least_remainder, most_remainder}
use Rattle.pst_domain.proofs.Decisions.{by_equality, equal_test}
use Rattle.pst_domain.proofs.CutLaws.{IsSane, Sane, cut_sane, cut_holds, cut_inside}
use Rattle.pst_domain.proofs.Lawful.{IsLawful, held}
use Rattle.pst_domain.proofs.ArithmeticLaws.{unless_zero}
use Rattle.pst_domain.proofs.PointLaws.{points_or, points_lawful}

-- a remainder lies between 0 and the dividend
from_zero : (x y : ℤ) → pos 0 ≤ℤ x → (pos 0 ≤ℤ int_rem x y) × (int_rem x y ≤ℤ x)
from_zero (pos n) y h = (omega (arith, ints), omega (arith, ints, mod-le n (nat_abs y)))
from_zero (negsuc n) y h = absurd (omega (arith, ints))

to_zero : (x y : ℤ) → x ≤ℤ pos 0 → (x ≤ℤ int_rem x y) × (int_rem x y ≤ℤ pos 0)
to_zero (pos n) y h = (omega (arith, ints), omega (arith, ints, mod-le n (nat_abs y)))
to_zero (negsuc n) y h = (omega (arith, ints, mod-le (suc n) (nat_abs y)), omega (arith, ints))

greatest_bounds : (t : Span) (y : ℤ) → IsInSpan y t → nat_abs y ≤ max (nat_abs t.low) (nat_abs t.high)
greatest_bounds t y k = omega (arith, ints, k.0, k.1)

other_than_zero : (y : ℤ) → (pos 0 <ℤ y) ⊎ (y <ℤ pos 0) → 0 < nat_abs y
other_than_zero y (inl h) = omega (arith, ints)
other_than_zero y (inr h) = omega (arith, ints)

-- and no farther from 0 than the table says
small : (t : Span) (x y : ℤ) → IsInSpan y t → (pos 0 <ℤ y) ⊎ (y <ℤ pos 0) → nat_abs (int_rem x y) ≤ greatest_remainder t
small t x y k c = omega (arith, rem_below x y (other_than_zero y c), greatest_bounds t y k)

-- an end of the remainders by its test
least_cases : (P : ℤ → Type 0) (s : Span) (m : ℤ) → (s.low <ℤ pos 0 → P (int_max s.low (neg_ℤ m))) → (pos 0 ≤ℤ s.low → P (pos 0)) → P (least_remainder s m)
least_cases P s m below above = go (int_lt s.low (pos 0)) refl
  where
    go : (b : Bool) → int_lt s.low (pos 0) ≡ b → P (cond b (int_max s.low (neg_ℤ m)) (pos 0))
    go true e = below (omega (arith, ints, e))
    go false e = above (omega (arith, ints, e))

most_cases : (P : ℤ → Type 0) (s : Span) (m : ℤ) → (pos 0 <ℤ s.high → P (int_min s.high m)) → (s.high ≤ℤ pos 0 → P (pos 0)) → P (most_remainder s m)
most_cases P s m above below = go (int_lt (pos 0) s.high) refl
  where
    go : (b : Bool) → int_lt (pos 0) s.high ≡ b → P (cond b (int_min s.high m) (pos 0))
    go true e = above (omega (arith, ints, e))
    go false e = below (omega (arith, ints, e))

either_side : (x : ℤ) → (pos 0 ≤ℤ x) ⊎ (x ≤ℤ pos 0)
either_side (pos n) = inl (omega (arith, ints))
either_side (negsuc n) = inr (omega (arith, ints))

-- r is a remainder of x: between 0 and x
abbrev pub IsTowardsZero : ℤ → ℤ → Type 0
IsTowardsZero x r = ((pos 0 ≤ℤ x) × (pos 0 ≤ℤ r) × (r ≤ℤ x)) ⊎ ((x ≤ℤ pos 0) × (x ≤ℤ r) × (r ≤ℤ pos 0))

towards_zero : (x y : ℤ) → IsTowardsZero x (int_rem x y)
towards_zero x y = go (either_side x)
  where
    go : (pos 0 ≤ℤ x) ⊎ (x ≤ℤ pos 0) → IsTowardsZero x (int_rem x y)
    go (inl h) = let b = from_zero x y h in inl (h, b.0, b.1)
    go (inr h) = let b = to_zero x y h in inr (h, b.0, b.1)

module _ (s : Span) (x r : ℤ) (m : ℕ) (h : IsInSpan x s) (near : nat_abs r ≤ m) where
  not_below : IsTowardsZero x r → least_remainder s (pos m) ≤ℤ r
  not_below (inl c) =
      least_cases (λ b. b ≤ℤ r) s (pos m)
      (λ l. omega (arith, ints, clamps, c.1))
      (λ l. c.1)
  not_below (inr c) =
      least_cases (λ b. b ≤ℤ r) s (pos m)
      (λ l. omega (arith, ints, clamps, c.1, h.0))
      (λ l. omega (arith, ints, c.1, h.0))

  not_above : IsTowardsZero x r → r ≤ℤ most_remainder s (pos m)
  not_above (inl c) =
      most_cases (λ b. r ≤ℤ b) s (pos m)
      (λ l. omega (arith, ints, clamps, c.2, h.1))
      (λ l. omega (arith, ints, c.2, h.1))
  not_above (inr c) =
      most_cases (λ b. r ≤ℤ b) s (pos m)
      (λ l. omega (arith, ints, clamps, c.2))
      (λ l. c.2)

abbrev pub other_remainders : Span → Span → Option Span
other_remainders s t = cut (least_remainder s (pos (greatest_remainder t))) (most_remainder s (pos (greatest_remainder t)))

least_orders : (s s' : Span) (m m' : ℕ) → s.low ≤ℤ s'.low → m' ≤ m → least_remainder s (pos m) ≤ℤ least_remainder s' (pos m')
least_orders s s' m m' h k =
    least_cases (λ b. b ≤ℤ least_remainder s' (pos m')) s (pos m)
    (λ l. least_cases (λ b. int_max s.low (neg_ℤ (pos m)) ≤ℤ b) s' (pos m') (λ l'. omega (arith, ints, clamps)) (λ l'. omega (arith, ints, clamps)))
    (λ l. least_cases (λ b. pos 0 ≤ℤ b) s' (pos m') (λ l'. omega (arith, ints, clamps)) (λ l'. omega (arith, ints)))

most_orders : (s s' : Span) (m m' : ℕ) → s'.high ≤ℤ s.high → m' ≤ m → most_remainder s' (pos m') ≤ℤ most_remainder s (pos m)
most_orders s s' m m' h k =
    most_cases (λ b. most_remainder s' (pos m') ≤ℤ b) s (pos m)
    (λ l. most_cases (λ b. b ≤ℤ int_min s.high (pos m)) s' (pos m') (λ l'. omega (arith, ints, clamps)) (λ l'. omega (arith, ints, clamps)))
    (λ l. most_cases (λ b. b ≤ℤ pos 0) s' (pos m') (λ l'. omega (arith, ints, clamps)) (λ l'. omega (arith, ints)))

fewer_remainders : (t t' : Span) → IsSane t' → IsInside (Some t') (Some t) → greatest_remainder t' ≤ greatest_remainder t
fewer_remainders t t' q k = omega (arith, ints, k.0, k.1, q.upright)

others_lawful : IsLawful remainder_of other_remainders
others_lawful = record {
  holds = λ s t x y p q h k i.
      unless_zero (other_remainders s t) y (in_range (int_rem x y)) (λ c.
      held (other_remainders s t) (int_rem x y) (λ r.
      cut_holds (least_remainder s (pos (greatest_remainder t))) (most_remainder s (pos (greatest_remainder t))) (int_rem x y)
      (not_below s x (int_rem x y) (greatest_remainder t) h (small t x y k c) (towards_zero x y))
      (not_above s x (int_rem x y) (greatest_remainder t) h (small t x y k c) (towards_zero x y))
      r));
  inside = λ s t s' t' p q p' q' h k.
      let m = greatest_remainder t in
      let m' = greatest_remainder t' in
      let fewer = fewer_remainders t t' q' k in
      cut_inside (least_remainder s (pos m)) (most_remainder s (pos m)) (least_remainder s' (pos m')) (most_remainder s' (pos m')) (least_orders s s' m m' h.0 fewer) (most_orders s s' m m' h.1 fewer);
  sane = λ s t p q. cut_sane (least_remainder s (pos (greatest_remainder t))) (most_remainder s (pos (greatest_remainder t)));
}

-- ---- no remainder where the divisor is only 0

zero_cases : (P : Option Span → Type 0) (s t : Span) → (is_zero t ≡ true → P None) → (is_zero t ≡ false → P (points_or remainder_of other_remainders s t)) → P (remainder_span s t)
zero_cases P s t zeros others = go (is_zero t) refl
  where
    go : (b : Bool) → is_zero t ≡ b → P (cond b None (points_or remainder_of other_remainders s t))
    go true e = zeros e
    go false e = others e

ends_are_zero : (t : Span) → is_zero t ≡ true → (t.low ≡ pos 0) × (t.high ≡ pos 0)
ends_are_zero t e =
    let p = and_parts (int_eq t.low (pos 0)) (int_eq t.high (pos 0)) e in
    (by_equality t.low (pos 0) p.0, by_equality t.high (pos 0) p.1)

inner_is_zero : (t t' : Span) → is_zero t ≡ true → IsSane t' → IsInside (Some t') (Some t) → is_zero t' ≡ true
inner_is_zero t t' e q k =
    let z = ends_are_zero t e in
    let low : t'.low ≡ pos 0 = omega (arith, ints, z.0, z.1, k.0, k.1, q.upright) in
    let high : t'.high ≡ pos 0 = omega (arith, ints, z.0, z.1, k.0, k.1, q.upright) in
    rw (equal_test t'.low (pos 0) low, equal_test t'.high (pos 0) high) refl

none_over_zero : (s t : Span) → is_zero t ≡ true → remainder_span s t ≡ None
none_over_zero s t e = rw e refl

pub remainder_lawful : IsLawful remainder_of remainder_span
remainder_lawful =
    let points = points_lawful remainder_of other_remainders others_lawful in
    record {
      holds = λ s t x y p q h k i.
          zero_cases (λ b. Holds b (remainder_of x y)) s t
          (λ e.
          let z = ends_are_zero t e in
          unless_zero None y (in_range (int_rem x y)) (λ c. absurd (omega (arith, ints, z.0, z.1, k.0, k.1, c))))
          (λ e. points.holds s t x y p q h k i);
      inside = λ s t s' t' p q p' q' h k.
          zero_cases (λ b. IsInside (remainder_span s' t') b) s t
          (λ e. subst (λ b. IsInside b None) (sym (none_over_zero s' t' (inner_is_zero t t' e q' k))) tt)
          (λ e. zero_cases (λ b. IsInside b (points_or remainder_of other_remainders s t)) s' t' (λ e'. tt) (λ e'. points.inside s t s' t' p q p' q' h k));
      sane = λ s t p q. zero_cases Sane s t (λ e. tt) (λ e. points.sane s t p q);
    }
