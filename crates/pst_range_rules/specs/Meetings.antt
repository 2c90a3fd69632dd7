-- The ranges of a match that meet earlier ones, and its later defaults.
use Rattle.std.specs.Prelude.{ℕ, ◌≤◌, ℤ, int_lt, int_le, Bool, true, false, ◌&&◌, ◌||◌, List, [], ◌∷◌, ◌++◌, Option, Some, None, if◌then◌else◌, sum_by}
use Rattle.std.specs.List.{list_any, flat_map}
use Rattle.pst_ast.specs.ActivityTree.{ArmLabelTree, ArmLabelRanges, ArmLabelDefault}
use Rattle.pst_ast.specs.ExpressionTree.{ExprTree}
use Rattle.pst_expr.specs.declared.ranges.Span.{Span}
use Rattle.pst_ast.specs.declared.referent.Finding.{Finding}
use Rattle.pst_ast.specs.NameRules.{finding}
use Rattle.pst_name_rules.specs.Earlier.{earlier}
use Rattle.pst_name_rules.specs.Leasts.{least_at}
use Rattle.pst_type_rules.specs.TypeRules.{ranges_of_arms}
use Rattle.pst_range_rules.specs.declared.span.RangeSpan.{RangeSpan}
use Rattle.pst_range_rules.specs.Spans.{meet, reversed_in, spans_of}

-- each item of a list with those before it, behind a front
abbrev pub fronts : {X : Type 0} → List X → List X → List (List X × X)
fronts front [] = []
fronts front (x ∷ more) = (front, x) ∷ fronts (front ++ x ∷ []) more

-- ---- ranges

abbrev pub meets_any : List RangeSpan → RangeSpan → Bool
meets_any front r = list_any (λ e. meet e.span r.span) front

-- a range that meets an earlier one
abbrev pub meeting_finding : List RangeSpan × RangeSpan → Option Finding
meeting_finding f = if meets_any f.0 f.1 then finding f.1.place 13 else None

abbrev pub meeting_from : List RangeSpan → List RangeSpan → Option Finding → Option Finding
meeting_from front ranges before = least_at meeting_finding (fronts front ranges) before

abbrev pub meeting_in : List RangeSpan → Option Finding
meeting_in ranges = meeting_from [] ranges None

-- ---- defaults

abbrev pub is_default : ArmLabelTree → Bool
is_default (ArmLabelRanges left ranges right) = false
is_default (ArmLabelDefault place) = true

-- a default behind another
abbrev pub later_default : Bool → ArmLabelTree → Option Finding
later_default seen (ArmLabelRanges left ranges right) = None
later_default seen (ArmLabelDefault place) = if seen then finding place 13 else None

abbrev pub defaults_from : Bool → List ArmLabelTree → Option Finding → Option Finding
defaults_from seen [] before = before
defaults_from seen (l ∷ more) before = defaults_from (seen || is_default l) more (earlier before (later_default seen l))

abbrev pub defaults_in : List ArmLabelTree → Option Finding
defaults_in labels = defaults_from false labels None

-- ---- both

abbrev pub arms_by : (ExprTree → Option ℤ) → List ArmLabelTree → Option Finding
arms_by value labels = earlier (earlier (reversed_in (spans_of value (ranges_of_arms labels))) (meeting_in (spans_of value (ranges_of_arms labels)))) (defaults_in labels)

-- ---- how meetings are looked for

-- the spans that aren't reversed
abbrev pub upright_of : Option Span → List Span
upright_of None = []
upright_of (Some s) = if int_le s.low s.high then s ∷ [] else []

abbrev pub upright_in : List RangeSpan → List Span
upright_in ranges = flat_map (λ r. upright_of r.span) ranges

-- 1 where a number is in a span, else 0
abbrev pub holds : ℤ → Span → ℕ
holds v s = if int_le s.low v && int_le v s.high then 1 else 0

-- no number is in two of them
abbrev pub AreApart : List Span → Type 0
AreApart spans = (v : ℤ) → sum_by (holds v) spans ≤ 1

-- above the high of the span before, where there is one
abbrev pub is_above : Option ℤ → ℤ → Bool
is_above None low = true
is_above (Some high) low = int_lt high low

-- none is reversed, and each is above the one before it
abbrev pub is_ascending : Option ℤ → List Span → Bool
is_ascending before [] = true
is_ascending before (s ∷ more) = is_above before s.low && (int_le s.low s.high && is_ascending (Some s.high) more)
