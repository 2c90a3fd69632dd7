-- Laws of spans: they hold every value, narrower bounds give a narrower span, and comparisons tell exactly what all pairs do.
use Rattle.std.specs.Prelude.{◌≡◌, ◌↔◌, ℤ, pos, ◌≤ℤ◌, int_lt, int_le, List, length, Bool, true, false, not, Option, IfSome}
use Rattle.std.specs.Ordering.{int_eq}
use Rattle.pst_num.specs.Range.{least, greatest}
use Rattle.pst_expr.specs.declared.ranges.Span.{Span}
use Rattle.pst_expr.specs.Spans.{IsInSpan}
use Rattle.pst_expr.specs.Tree.{Expression}
use Rattle.pst_expr.specs.Value.{value}
use Rattle.pst_domain.specs.declared.truth.Truth.{Truth}
use Rattle.pst_domain.specs.declared.truth.Truth.TheVariants.{False, True}
use Rattle.pst_domain.specs.Bounds.{HasVariablesBelow, Holds, AreWithin, IsInside, AreInside}
use Rattle.pst_domain.specs.Comparison.{less_truth, less_or_equal_truth, equal_truth, not_equal_truth}
use Rattle.pst_domain.specs.Interval.{interval}

-- the value of an expression, under any values within the bounds, lies in a span; without a span it has none
abbrev pub HoldsValues : Option Span → Expression → List (Option Span) → Type 0
HoldsValues bound e bounds = (values : List (Option ℤ)) → AreWithin bounds values → Holds bound (value e values)

abbrev pub SpansHoldValues : Type 0
SpansHoldValues = (e : Expression) (bounds : List (Option Span)) → HasVariablesBelow (length bounds) e → HoldsValues (interval e bounds) e bounds

-- an expression isn't true under any values within the bounds: it has no value there but 0
abbrev pub IsNeverTrue : Expression → List (Option Span) → Type 0
IsNeverTrue e bounds = (values : List (Option ℤ)) → AreWithin bounds values → IfSome (value e values) (λ v. v ≡ pos 0)

-- bounds inside others give a span inside theirs
abbrev pub NarrowerBoundsGiveInnerSpans : Type 0
NarrowerBoundsGiveInnerSpans = (e : Expression) (inner outer : List (Option Span)) → AreInside inner outer → IsInside (interval e inner) (interval e outer)

-- a span runs upwards between values
pub record IsSane (s : Span) : Type 0 where
  pub from_least : least ≤ℤ s.low
  pub upright : s.low ≤ℤ s.high
  pub to_greatest : s.high ≤ℤ greatest

abbrev pub SpansAreSane : Type 0
SpansAreSane = (e : Expression) (bounds : List (Option Span)) → IfSome (interval e bounds) IsSane

-- all pairs of numbers of two spans compare alike
abbrev pub AllCompare : (ℤ → ℤ → Bool) → Bool → Span → Span → Type 0
AllCompare test v s t = (x y : ℤ) → IsInSpan x s → IsInSpan y t → test x y ≡ v

-- true exactly where all pairs compare, false exactly where none does
pub record IsExact (test : ℤ → ℤ → Bool) (truth : Span → Span → Truth) (s t : Span) : Type 0 where
  pub on_true : truth s t ≡ True ↔ AllCompare test true s t
  pub on_false : truth s t ≡ False ↔ AllCompare test false s t

abbrev pub DecidesPairs : (ℤ → ℤ → Bool) → (Span → Span → Truth) → Type 0
DecidesPairs test truth = (s t : Span) → s.low ≤ℤ s.high → t.low ≤ℤ t.high → IsExact test truth s t

pub record DecideAllPairs : Type 0 where
  pub less : DecidesPairs int_lt less_truth
  pub less_or_equal : DecidesPairs int_le less_or_equal_truth
  pub equal : DecidesPairs int_eq equal_truth
  pub not_equal : DecidesPairs (λ x y. not (int_eq x y)) not_equal_truth
