-- Laws of spans that were given.
use Rattle.std.specs.Prelude.{ℕ, List, map, Option}
use Rattle.pst_expr.specs.declared.ranges.Span.{Span}
use Rattle.pst_expr.specs.Tree.{Expression, view}
use Rattle.pst_domain.specs.Bounds.{AreInside}
use Rattle.pst_narrow.specs.Solutions.{AreMet}
use Rattle.pst_narrow.specs.Narrowing.{Narrows, AreOpen}
use Rattle.pst_reasons.specs.declared.reasons.Narrowed.{Narrowed}
use Rattle.pst_reasons.specs.declared.step.Given.{Given}
use Rattle.pst_reasons.specs.Reasons.{AreReasons}
use Rattle.pst_reasons.specs.Giving.{IsKept, start_of, with_given}

-- at bounds that hold the spans that variables were given, and of all others the bounds at the start, no constraint is refused
abbrev pub GivenSpansRefuseNothing : Type 0
GivenSpansRefuseNothing =
    (s : Narrowed) (bounds : List (Option Span)) → IsKept s → AreInside (with_given (start_of s) s.given.items) bounds → AreOpen (map view s.constraints.items) bounds

-- reasons within narrowed bounds are reasons within those from which they were narrowed
abbrev pub ReasonsHoldBeforeNarrowing : Type 0
ReasonsHoldBeforeNarrowing =
    (es : List Expression) (given : List Given) (bounds start : List (Option Span)) (places : List ℕ) → Narrows (AreMet es) bounds start → AreReasons es given start places → AreReasons es given bounds places
