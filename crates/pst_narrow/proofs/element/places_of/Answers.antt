use Rattle.std.proofs.Common.{rules, ℕ, ◌<◌, ◌≤◌, ◌+◌, ◌-◌, length, w64, pos, ◌-ℤ◌, ◌≤ℤ◌, nat_abs, List, Option, FitsSigned, to_z, of_z, arith, sym, subst, ap}
use Rattle.pst_expr.specs.declared.ranges.Span.{Span}
use Rattle.pst_domain.specs.Bounds.{bound_of}
use Rattle.pst_narrow.specs.Elements.{Misses}
use Rattle.pst_narrow.proofs.ElementLemmas.{no_places, places_kept, nothing_between, place_between, last_place, lowest_is, highest_is, reversed, in_order, place_is, offset_fits, offset_is, less_one_fits, less_one_is}
use Rattle.pst_narrow.proofs.element.places_of.Goals as goal

pub returns-then-low-high : goal.returns-then-low-high
returns-then-low-high c =
    let s = c.args.index in
    let low = c.max-low.result in
    let high = c.min-high.result in
    let f0 : FitsSigned w64 s.low = search rules in
    let f1 : FitsSigned w64 s.high = search rules in
    let g0 : FitsSigned w64 low = search rules in
    let g1 : FitsSigned w64 high = search rules in
    let e0 = lowest_is s.low low f0 c.max-low.ensures.value in
    let e1 = highest_is s.high high c.from.result c.args.count f1 c.ranges.count.fits c.from.ensures c.min-high.ensures.value in
    no_places c.args.first c.args.count c.args.wanted s (record { low = pos 1; high = pos 0 }) c.args.bounds.now
    (λ n at small. nothing_between s.low s.high low high n c.args.count e0 e1 (reversed low high g0 g1 c.if-low-high.true) at.0 at.1 small)

pub first_place-from-requires-clause-within : goal.first_place-from-requires-clause-within
first_place-from-requires-clause-within c =
    let s = c.args.index in
    let low = c.max-low.result in
    let high = c.min-high.result in
    let f0 : FitsSigned w64 s.low = search rules in
    let f1 : FitsSigned w64 s.high = search rules in
    let g0 : FitsSigned w64 low = search rules in
    let g1 : FitsSigned w64 high = search rules in
    let e0 = lowest_is s.low low f0 c.max-low.ensures.value in
    let e1 = highest_is s.high high c.from.result c.args.count f1 c.ranges.count.fits c.from.ensures c.min-high.ensures.value in
    let last : nat_abs high < c.args.count = last_place s.low s.high low high c.args.count e0 e1 (in_order low high g0 g1 c.if-low-high.false) in
    let p = nat_abs (to_z w64 (of_z w64 high)) in
    let small : p < c.args.count = subst (λ k. k < c.args.count) (sym (place_is high g1)) last in
    let below = c.requires p small in
    omega (arith, ap length c.spans-spans.ensures, below)

pub end_of_places-end-requires-clause-within : goal.end_of_places-end-requires-clause-within
end_of_places-end-requires-clause-within c =
    let s = c.args.index in
    let low = c.max-low.result in
    let high = c.min-high.result in
    let f0 : FitsSigned w64 s.low = search rules in
    let f1 : FitsSigned w64 s.high = search rules in
    let g0 : FitsSigned w64 low = search rules in
    let g1 : FitsSigned w64 high = search rules in
    let e0 = lowest_is s.low low f0 c.max-low.ensures.value in
    let e1 = highest_is s.high high c.from.result c.args.count f1 c.ranges.count.fits c.from.ensures c.min-high.ensures.value in
    let last : nat_abs high < c.args.count = last_place s.low s.high low high c.args.count e0 e1 (in_order low high g0 g1 c.if-low-high.false) in
    let p = nat_abs (to_z w64 (of_z w64 high)) in
    let small : p < c.args.count = subst (λ k. k < c.args.count) (sym (place_is high g1)) last in
    let below = c.requires p small in
    omega (arith, ap length c.spans-spans.ensures, below)

pub overflow_cast-result : goal.overflow_cast-result
overflow_cast-result c =
    let s = c.args.index in
    let low = c.max-low.result in
    let high = c.min-high.result in
    let f0 : FitsSigned w64 s.low = search rules in
    let f1 : FitsSigned w64 s.high = search rules in
    let g0 : FitsSigned w64 low = search rules in
    let g1 : FitsSigned w64 high = search rules in
    let e0 = lowest_is s.low low f0 c.max-low.ensures.value in
    let e1 = highest_is s.high high c.from.result c.args.count f1 c.ranges.count.fits c.from.ensures c.min-high.ensures.value in
    let last : nat_abs high < c.args.count = last_place s.low s.high low high c.args.count e0 e1 (in_order low high g0 g1 c.if-low-high.false) in
    let p = nat_abs (to_z w64 (of_z w64 high)) in
    let small : p < c.args.count = subst (λ k. k < c.args.count) (sym (place_is high g1)) last in
    offset_fits c.args.first p c.first_place-from.result c.args.count c.first_place-from.ensures.range.1 small c.ranges.count.fits

pub overflow_cast-result-2 : goal.overflow_cast-result-2
overflow_cast-result-2 c =
    let s = c.args.index in
    let low = c.max-low.result in
    let high = c.min-high.result in
    let f0 : FitsSigned w64 s.low = search rules in
    let f1 : FitsSigned w64 s.high = search rules in
    let g0 : FitsSigned w64 low = search rules in
    let g1 : FitsSigned w64 high = search rules in
    let e0 = lowest_is s.low low f0 c.max-low.ensures.value in
    let e1 = highest_is s.high high c.from.result c.args.count f1 c.ranges.count.fits c.from.ensures c.min-high.ensures.value in
    let last : nat_abs high < c.args.count = last_place s.low s.high low high c.args.count e0 e1 (in_order low high g0 g1 c.if-low-high.false) in
    let p = nat_abs (to_z w64 (of_z w64 high)) in
    let small : p < c.args.count = subst (λ k. k < c.args.count) (sym (place_is high g1)) last in
    offset_fits c.args.first p c.end_of_places-end.result c.args.count c.end_of_places-end.ensures.range.1 small c.ranges.count.fits

pub overflow_sub-result-3 : goal.overflow_sub-result-3
overflow_sub-result-3 c =
    let s = c.args.index in
    let low = c.max-low.result in
    let high = c.min-high.result in
    let f0 : FitsSigned w64 s.low = search rules in
    let f1 : FitsSigned w64 s.high = search rules in
    let g0 : FitsSigned w64 low = search rules in
    let g1 : FitsSigned w64 high = search rules in
    let e0 = lowest_is s.low low f0 c.max-low.ensures.value in
    let e1 = highest_is s.high high c.from.result c.args.count f1 c.ranges.count.fits c.from.ensures c.min-high.ensures.value in
    let last : nat_abs high < c.args.count = last_place s.low s.high low high c.args.count e0 e1 (in_order low high g0 g1 c.if-low-high.false) in
    let p = nat_abs (to_z w64 (of_z w64 high)) in
    let small : p < c.args.count = subst (λ k. k < c.args.count) (sym (place_is high g1)) last in
    less_one_fits c.args.first p c.end_of_places-end.result c.args.count c.end_of_places-end.ensures.range.1 small c.ranges.count.fits

pub returns : goal.returns
returns c =
    let s = c.args.index in
    let low = c.max-low.result in
    let high = c.min-high.result in
    let f0 : FitsSigned w64 s.low = search rules in
    let f1 : FitsSigned w64 s.high = search rules in
    let g0 : FitsSigned w64 low = search rules in
    let g1 : FitsSigned w64 high = search rules in
    let e0 = lowest_is s.low low f0 c.max-low.ensures.value in
    let e1 = highest_is s.high high c.from.result c.args.count f1 c.ranges.count.fits c.from.ensures c.min-high.ensures.value in
    let last : nat_abs high < c.args.count = last_place s.low s.high low high c.args.count e0 e1 (in_order low high g0 g1 c.if-low-high.false) in
    let p = nat_abs (to_z w64 (of_z w64 high)) in
    let small : p < c.args.count = subst (λ k. k < c.args.count) (sym (place_is high g1)) last in
    let first = c.args.first in
    let count = c.args.count in
    let from = c.first_place-from.result in
    let end = c.end_of_places-end.result in
    let bounds = c.args.bounds.now in
    let q = nat_abs (to_z w64 (of_z w64 low)) in
    let lowest : (n : ℕ) → (s.low ≤ℤ pos n) × (pos n ≤ℤ s.high) → n < count → (q ≤ n) × (n ≤ p) = λ n at under.
    let between = place_between s.low s.high low high n count e0 e1 at.0 at.1 under in
    (subst (λ k. k ≤ n) (sym (place_is low g0)) between.0, subst (λ k. n ≤ k) (sym (place_is high g1)) between.1) in
    let early = subst (λ (b : List (Option Span)). (i : ℕ) → first + q ≤ i → i < from → Misses (bound_of b i) c.args.wanted) c.spans-spans.ensures c.first_place-from.ensures.missed in
    let late = subst (λ (b : List (Option Span)). (i : ℕ) → end ≤ i → i < first + p + 1 → Misses (bound_of b i) c.args.wanted) c.spans-spans.ensures c.end_of_places-end.ensures.missed in
    places_kept first count c.args.wanted s bounds c.requires q p lowest from end early late (record { low = to_z w64 (from - first); high = to_z w64 (of_z w64 (to_z w64 (end - first) -ℤ pos 1)) })
    (offset_is first p from count c.first_place-from.ensures.range.1 small c.ranges.count.fits) (less_one_is first p end count c.end_of_places-end.ensures.range.1 small c.ranges.count.fits)
