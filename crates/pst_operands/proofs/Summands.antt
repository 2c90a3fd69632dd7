-- What cuts keep of the operands of sums, differences and the like.
use Rattle.std.proofs.Common.{◌≡◌, ℤ, negsuc, neg_ℤ, ◌+ℤ◌, ◌-ℤ◌, ◌≤ℤ◌, Option, Some, w64, arith, sym, ap, ◌∙◌}
use Rattle.std.specs.Int.{int_bit_not}
use Rattle.std.proofs.lemmas.Int.{ints}
use Rattle.std.proofs.Math.IntN.{+ℤ_comm}
use Rattle.pst_num.specs.Range.{in_range, least, greatest}
use Rattle.pst_num.specs.Arithmetic.{sum_of, difference_of, negation_of}
use Rattle.pst_num.specs.Bits.{bits_not}
use Rattle.pst_expr.specs.declared.ranges.Span.{Span}
use Rattle.pst_expr.specs.Spans.{IsInSpan}
use Rattle.pst_operands.specs.Keeps.{Keeps, KeepsLeft, KeepsRight, KeepsOperand}
use Rattle.pst_operands.proofs.Exactly.{exact}
use Rattle.pst_operands.proofs.Digits.{not_is}

-- both ends
both_ends : (s a b : Span) (l h x : ℤ) → Keeps (λ v. l ≤ℤ v) s a → Keeps (λ v. v ≤ℤ h) a b → IsInSpan x s → l ≤ℤ x → x ≤ℤ h → IsInSpan x b
both_ends s a b l h x low high at above under = high x (low x at above) under

module _ (s t w a b : Span) (l h : ℤ) (low : Keeps (λ v. l ≤ℤ v) s a) (high : Keeps (λ v. v ≤ℤ h) a b) where
  pub summand : l ≡ w.low -ℤ t.high → h ≡ w.high -ℤ t.low → KeepsLeft sum_of s t w b
  summand e f x y z at with m g =
      let p = exact (x +ℤ y) z g in
      both_ends s a b l h x low high at (omega (arith, ints, e, p, with.1, m.0)) (omega (arith, ints, f, p, with.0, m.1))

  pub minuend : l ≡ w.low +ℤ t.low → h ≡ w.high +ℤ t.high → KeepsLeft difference_of s t w b
  minuend e f x y z at with m g =
      let p = exact (x -ℤ y) z g in
      both_ends s a b l h x low high at (omega (arith, ints, e, p, with.0, m.0)) (omega (arith, ints, f, p, with.1, m.1))

  -- here s is the right operand, and t the left one
  pub subtrahend : l ≡ t.low -ℤ w.high → h ≡ t.high -ℤ w.low → KeepsRight difference_of t s w b
  subtrahend e f x y z with at m g =
      let p = exact (x -ℤ y) z g in
      both_ends s a b l h y low high at (omega (arith, ints, e, p, with.0, m.1)) (omega (arith, ints, f, p, with.1, m.0))

  pub negated : l ≡ neg_ℤ w.high → h ≡ neg_ℤ w.low → KeepsOperand negation_of s w b
  negated e f x z at m g =
      let p = exact (neg_ℤ x) z g in
      both_ends s a b l h x low high at (omega (arith, ints, e, p, m.1)) (omega (arith, ints, f, p, m.0))

  pub inverted : least ≤ℤ s.low → s.high ≤ℤ greatest → l ≡ negsuc 0 -ℤ w.high → h ≡ negsuc 0 -ℤ w.low → KeepsOperand bits_not s w b
  inverted i j e f x z at m g =
      let p : int_bit_not w64 x ≡ negsuc 0 -ℤ x = not_is x (after s.low x i at.0) (before x s.high at.1 j) in
      let q : z ≡ negsuc 0 -ℤ x = sym (some (int_bit_not w64 x) z g) ∙ p in
      both_ends s a b l h x low high at (omega (arith, ints, e, q, m.1)) (omega (arith, ints, f, q, m.0))
    where
      after : (k v : ℤ) → least ≤ℤ k → k ≤ℤ v → least ≤ℤ v
      after k v a b = omega (arith, ints)

      before : (v k : ℤ) → v ≤ℤ k → k ≤ℤ greatest → v ≤ℤ greatest
      before v k a b = omega (arith, ints)

      some : (v u : ℤ) → (let r : Option ℤ = Some v in r ≡ Some u) → v ≡ u
      some v u e = cc

pub sum_turned : (x y z : ℤ) → sum_of x y ≡ Some z → sum_of y x ≡ Some z
sum_turned x y z e = ap in_range (+ℤ_comm y x) ∙ e
