-- Spans of the unary operators hold the values, and a narrower operand gives a narrower span.
use Rattle.std.proofs.Common.{◌≡◌, ℕ, suc, ◌-◌, ◌^◌, ℤ, pos, negsuc, neg_ℤ, ◌-ℤ◌, Bool, true, false, not, Some, IsTrue, w64, to_z, arith, refl, sym, ap, ◌∙◌}
use Rattle.std.specs.Int.{int_bit_not}
use Rattle.std.proofs.lemmas.Int.{ints, to_z_pos}
use Rattle.std.proofs.Math.Facts.{to_z-neg}
use Rattle.pst_num.specs.Range.{is_in_range}
use Rattle.pst_expr.specs.declared.ranges.Span.{Span}
use Rattle.pst_expr.specs.declared.tree.UnaryOp.{UnaryOp}
use Rattle.pst_expr.specs.declared.tree.UnaryOp.TheVariants.{Neg, Not, BitNot}
use Rattle.pst_expr.specs.Spans.{IsInSpan}
use Rattle.pst_expr.specs.Value.{unary_value, is_false, number_of}
use Rattle.pst_domain.specs.declared.truth.Truth.{Truth}
use Rattle.pst_domain.specs.declared.truth.Truth.TheVariants.{False, True, Either}
use Rattle.pst_domain.specs.Bounds.{Holds, IsInside}
use Rattle.pst_domain.specs.Truth.{truth_of_span, span_of_truth, negated}
use Rattle.pst_domain.specs.Arithmetic.{negation_span, inverse_span}
use Rattle.pst_domain.specs.Interval.{unary_span}
use Rattle.pst_domain.proofs.CutLaws.{IsSane, Sane, InRange, in_order, cut_sane, cut_holds, cut_inside}
use Rattle.pst_domain.proofs.Lawful.{held}
use Rattle.pst_domain.proofs.TruthLaws.{may, number_held, truth_inside, truth_sane, may_hold, may_inside}

minus_one_pos : (n : ℕ) → negsuc n ≡ negsuc 0 -ℤ pos n
minus_one_pos n = omega (arith, ints)

minus_one_negsuc : (n : ℕ) → pos n ≡ negsuc 0 -ℤ negsuc n
minus_one_negsuc n = omega (arith, ints)

-- ~x is -1 - x
not_is : (x : ℤ) → IsTrue (is_in_range x) → int_bit_not w64 x ≡ negsuc 0 -ℤ x
not_is (pos n) r =
    let o = in_order (pos n) r in
    let e : 2 ^ 64 - 1 - n ≡ 2 ^ 64 - suc n = omega arith in
    ap (to_z w64) e ∙ to_z-neg w64 n (omega (arith, ints, o.1)) ∙ minus_one_pos n
not_is (negsuc n) r =
    let o = in_order (negsuc n) r in
    let e : 2 ^ 64 - 1 - (2 ^ 64 - suc n) ≡ n = omega (arith, ints, o.0) in
    ap (to_z w64) e ∙ to_z_pos w64 n (omega (arith, ints, o.0)) ∙ minus_one_negsuc n

inverse_held : (s : Span) (x : ℤ) → IsInSpan x s → IsTrue (is_in_range x) → IsTrue (is_in_range (int_bit_not w64 x)) → Holds (inverse_span s) (Some (int_bit_not w64 x))
inverse_held s x h r i =
    let e = not_is x r in
    cut_holds (negsuc 0 -ℤ s.high) (negsuc 0 -ℤ s.low) (int_bit_not w64 x) (omega (arith, ints, e, h.1)) (omega (arith, ints, e, h.0)) i

-- a negated truth allows the opposite
may_negated : (w : Truth) (v : Bool) → may (Some (negated w)) v ≡ may (Some w) (not v)
may_negated False v = go v
  where
    go : (v : Bool) → v ≡ not (not v)
    go true = refl
    go false = refl
may_negated True v = refl
may_negated Either v = refl

not_held : (s : Span) (x : ℤ) → IsInSpan x s → Holds (Some (span_of_truth (negated (truth_of_span s)))) (Some (number_of (is_false x)))
not_held s x h = number_held (Some (negated (truth_of_span s))) (is_false x) (may_negated (truth_of_span s) (is_false x) ∙ may_hold (Some s) x h)

pub unary_holds : (op : UnaryOp) (s : Span) (x : ℤ) → IsInSpan x s → IsTrue (is_in_range x) → InRange (unary_value op x) → Holds (unary_span op s) (unary_value op x)
unary_holds Neg s x h r i = held (negation_span s) (neg_ℤ x) (λ k. cut_holds (neg_ℤ s.high) (neg_ℤ s.low) (neg_ℤ x) (omega (arith, ints, h.1)) (omega (arith, ints, h.0)) k)
unary_holds Not s x h r i = not_held s x h
unary_holds BitNot s x h r i = inverse_held s x h r i

pub unary_inside : (op : UnaryOp) (s s' : Span) → IsSane s' → IsInside (Some s') (Some s) → IsInside (unary_span op s') (unary_span op s)
unary_inside Neg s s' p h = cut_inside (neg_ℤ s.high) (neg_ℤ s.low) (neg_ℤ s'.high) (neg_ℤ s'.low) (omega (arith, ints, h.1)) (omega (arith, ints, h.0))
unary_inside Not s s' p h =
    truth_inside (Some (negated (truth_of_span s'))) (Some (negated (truth_of_span s))) (λ v e.
    may_negated (truth_of_span s) v ∙ may_inside (Some s') (Some s) p h (not v) (sym (may_negated (truth_of_span s') v) ∙ e))
unary_inside BitNot s s' p h = cut_inside (negsuc 0 -ℤ s.high) (negsuc 0 -ℤ s.low) (negsuc 0 -ℤ s'.high) (negsuc 0 -ℤ s'.low) (omega (arith, ints, h.1)) (omega (arith, ints, h.0))

pub unary_sane : (op : UnaryOp) (s : Span) → Sane (unary_span op s)
unary_sane Neg s = cut_sane (neg_ℤ s.high) (neg_ℤ s.low)
unary_sane Not s = truth_sane (Some (negated (truth_of_span s)))
unary_sane BitNot s = cut_sane (negsuc 0 -ℤ s.high) (negsuc 0 -ℤ s.low)
