-- Constraints that aren't refused at narrower bounds, nor at wider ones.
use Rattle.std.proofs.Common.{◌≡◌, ⊎_elim, ◌<◌, ◌≤◌, ℤ, ◌≤ℤ◌, pos, length, map, get_or, ◌&&◌, Bool, true, false, Option, Some, None, IfSome, refl, sym, subst, ◌∙◌, arith}
use Rattle.std.proofs.lemmas.List.{get_or_past}
use Rattle.std.proofs.lemmas.Bool.{cases_lt, and_parts}
use Rattle.std.proofs.lemmas.Bool.Decides.{Decides-int_eq}
use Rattle.std.proofs.lemmas.Int.{ints}
use Rattle.std.specs.Ordering.{int_eq}
use Rattle.pst_expr.specs.declared.ranges.Span.{Span}
use Rattle.pst_expr.specs.Tree.{Expression, view}
use Rattle.pst_expr.specs.Value.{variable_value}
use Rattle.pst_domain.specs.Bounds.{bound_of, Holds, IsInside, AreInside, AreWithin}
use Rattle.pst_domain.specs.Interval.{interval, is_refused}
use Rattle.pst_domain.specs.Laws.{IsSane, NarrowerBoundsGiveInnerSpans, SpansAreSane}
use Rattle.pst_domain.specs.Truth.{is_zero}
use Rattle.pst_narrow.proofs.NarrowLemmas.{inside_then}
use Rattle.pst_reasons.specs.Giving.{start_of, with_given}
use Rattle.pst_reasons.specs.Laws.{GivenSpansRefuseNothing, ReasonsHoldBeforeNarrowing}
use Rattle.pst_reasons.proofs.KeepLemmas.{state_of}

by_zero : (a : ℤ) → int_eq a (pos 0) ≡ true → a ≡ pos 0
by_zero a e = (Decides-int_eq a (pos 0)).0 e

zero_test : (a : ℤ) → a ≡ pos 0 → int_eq a (pos 0) ≡ true
zero_test a e = (Decides-int_eq a (pos 0)).1 e

and_true : (a b : Bool) → a ≡ true → b ≡ true → (a && b) ≡ true
and_true true true e f = refl
and_true true false e f = absurd cc
and_true false b e f = absurd cc

-- a span of 0 alone has no other inside it
zero_inside : (s t : Span) → s.low ≤ℤ s.high → t.low ≤ℤ s.low → s.high ≤ℤ t.high → is_zero t ≡ true → is_zero s ≡ true
zero_inside s t order low high zero =
    let parts = and_parts (int_eq t.low (pos 0)) (int_eq t.high (pos 0)) zero in
    let e = by_zero t.low parts.0 in
    let f = by_zero t.high parts.1 in
    let g : s.low ≡ pos 0 = omega (arith, ints, order, low, high, e, f) in
    let k : s.high ≡ pos 0 = omega (arith, ints, order, low, high, e, f) in
    and_true (int_eq s.low (pos 0)) (int_eq s.high (pos 0)) (zero_test s.low g) (zero_test s.high k)

open_wider : (r q : Option Span) → IfSome r IsSane → IsInside r q → is_refused r ≡ false → is_refused q ≡ false
open_wider None q sane inside kept = absurd cc
open_wider (Some s) None sane inside kept = absurd inside
open_wider (Some s) (Some t) sane inside kept = go (is_zero t) refl
  where
    go : (z : Bool) → is_zero t ≡ z → z ≡ false
    go true e = absurd (let k = zero_inside s t sane.upright inside.0 inside.1 e in cc)
    go false e = refl

pub given_open : NarrowerBoundsGiveInnerSpans → SpansAreSane → GivenSpansRefuseNothing
given_open narrower sane s bounds kept inside k d small =
    let es = map view s.constraints.items in
    let e : Expression = get_or es k d in
    let st = state_of s kept in
    let within : AreInside s.bounds bounds = λ j. inside_then (bound_of s.bounds j) (bound_of (with_given (start_of s) s.given.items) j) (bound_of bounds j) (st.inside j) (inside j) in
    open_wider (interval e s.bounds) (interval e bounds) (sane e s.bounds) (narrower e s.bounds bounds within) (st.unrefused k d small)

pub reasons_before : ReasonsHoldBeforeNarrowing
reasons_before es given bounds start places narrows reasons values met lie agree =
    let count = narrows.count in
    let within : AreWithin start values = narrows.keeps values (λ i small. lie i) met in
    reasons values met
    (λ v. ⊎_elim
    (λ (l : v < length start). within v l)
    (λ (l : length start ≤ v).
    let a : bound_of start v ≡ None = get_or_past start v None l in
    let b : bound_of bounds v ≡ None = get_or_past bounds v None (omega (arith, l, count)) in
    subst (λ r. Holds r (variable_value values v)) (b ∙ sym a) (lie v))
    (cases_lt v (length start)))
    agree
