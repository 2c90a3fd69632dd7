-- The domain of a small type.
use Rattle.std.proofs.Common.{◌≡◌, inl, inr, arith, ◌<◌, get_or, zero, suc, refl, sym, subst, ◌∙◌}
use Rattle.std.specs.Prelude.{ℕ, ℤ, pos, ◌≤ℤ◌, List, [], ◌∷◌, Some}
use Rattle.std.specs.List.{Contains}
use Rattle.std.proofs.lemmas.Int.{ints, by_lt_z}
use Rattle.pst_ast.specs.ExpressionTree.{RangeTree, RangeSingle, RangeBetween}
use Rattle.pst_expr.specs.declared.ranges.Span.{Span}
use Rattle.pst_expr.specs.Spans.{IsInSpan}
use Rattle.pst_ast.specs.Tried.{at}
use Rattle.pst_type_rules.specs.Constants.{IsConstant}
use Rattle.pst_num.specs.Range.{in_range}
use Rattle.pst_type_rules.specs.Domains.{span, unsigned_span, ByCount, BitOfWidth, IsSpanOf, Single, Between, IsInRanges, IsInType, OfPlain, IsDomainOf}
use Rattle.pst_type_rules.specs.ConstantsTried.{units, names, top, number, small}
use Rattle.pst_type_rules.proofs.OneValue.{some_is}
use Rattle.pst_type_rules.proofs.OneDomain.{In, from_any, to_any}
use Rattle.pst_type_rules.proofs.ConstantsTried.{nothing, of_nothing}

constant : (n column : ℕ) → in_range (pos n) ≡ Some (pos n) → IsConstant units names top (number n column) (pos n)
constant n column e = record { items = λ u c. absurd (omega (arith, c.1)); value = record { known = nothing; items = of_nothing; value = e } }

its_value : (n column : ℕ) (v : ℤ) → in_range (pos n) ≡ Some (pos n) → IsConstant units names top (number n column) v → v ≡ pos n
its_value n column v e c = some_is v (pos n) (sym c.value.value ∙ e)

abbrev low_range : RangeTree
low_range = RangeBetween (number 0 56) (at 57) (number 1 58)

abbrev two : RangeTree
two = RangeSingle (number 2 60)

abbrev ranges : List RangeTree
ranges = low_range ∷ two ∷ []

abbrev Small : ℤ → Type 0
Small v = (pos 0 ≤ℤ v) × (v ≤ℤ pos 2)

in_low : (s : Span) (v : ℤ) → IsSpanOf units names top low_range s → IsInSpan v s → Small v
in_low s v (Between _ _ _ a b c d) h =
    let low = its_value 0 56 a refl c in
    let high = its_value 1 58 b refl d in
    let above : pos 0 ≤ℤ v = subst (λ (z : ℤ). z ≤ℤ v) low h.0 in
    let below : v ≤ℤ pos 1 = subst (λ (z : ℤ). v ≤ℤ z) high h.1 in
    (above, omega (arith, ints))

in_two : (s : Span) (v : ℤ) → IsSpanOf units names top two s → IsInSpan v s → Small v
in_two s v (Single _ a c) h =
    let is = its_value 2 60 a refl c in
    let above : pos 2 ≤ℤ v = subst (λ (z : ℤ). z ≤ℤ v) is h.0 in
    let below : v ≤ℤ pos 2 = subst (λ (z : ℤ). v ≤ℤ z) is h.1 in
    (omega (arith, ints), below)

in_range_of : (r : RangeTree) (s : Span) (v : ℤ) → Contains ranges r → IsSpanOf units names top r s → IsInSpan v s → Small v
in_range_of r s v (zero, less, is) of h = in_low s v (subst (λ (x : RangeTree). IsSpanOf units names top x s) (sym is) of) h
in_range_of r s v (suc zero, less, is) of h = in_two s v (subst (λ (x : RangeTree). IsSpanOf units names top x s) (sym is) of) h
in_range_of r s v (suc (suc k), less, is) of h = absurd (omega (arith, less))

small_only : (v : ℤ) → IsInType units names top small v → Small v
small_only v (OfPlain _ _ s _ bits inside kept) = in_range_of kept.range kept.span v kept.among kept.is kept.inside

is_kept : (v : ℤ) → Small v → IsInRanges units names top ranges v
is_kept v h =
    let above : pos 0 ≤ℤ v = h.0 in
    let below : v ≤ℤ pos 2 = h.1 in
    by_lt_z v (pos 2)
    (λ less. record { range = low_range; among = (0, omega arith, refl); span = span (pos 0) (pos 1); is = Between _ _ _ _ _ (constant 0 56 refl) (constant 1 58 refl); inside = (above, omega (arith, ints)) })
    (λ most. record { range = two; among = (1, omega arith, refl); span = span (pos 2) (pos 2); is = Single _ _ (constant 2 60 refl); inside = (most, below) })

has_small : (v : ℤ) → Small v → IsInType units names top small v
has_small v h =
    let above : pos 0 ≤ℤ v = h.0 in
    let below : v ≤ℤ pos 2 = h.1 in
    OfPlain _ _ (unsigned_span 2) v (BitOfWidth _ _ 2 (ByCount _ _ _ _ (constant 2 52 refl))) (above, omega (arith, ints)) (is_kept v h)

abbrev IsNothing : List Span → Type 0
IsNothing [] = ⊥
IsNothing (s ∷ more) = Unit {0}

its_low : (k : ℕ) (d : Span) → k < 1 → (get_or (span (pos 0) (pos 2) ∷ []) k d).low ≤ℤ (get_or (span (pos 0) (pos 2) ∷ []) k d).high
its_low zero d h = omega arith
its_low (suc k) d h = absurd (omega (arith, h))

abbrev spans : List Span
spans = span (pos 0) (pos 2) ∷ []

in_it : (v : ℤ) → In v spans → Small v
in_it v (inl h) = h
in_it v (inr h) = absurd h

pub one_span : IsDomainOf units names top small spans
one_span = record {
  domain = record {
    some = λ e. subst IsNothing e tt;
    upright = its_low;
    ascending = λ i j d less h. absurd (omega (arith, less, h));
    few = omega arith;
  };
  apart = λ i j d less h. absurd (omega (arith, less, h));
  values = λ v. ((λ h. has_small v (in_it v (from_any v spans h))), (λ h. to_any v spans (inl (small_only v h))));
}
