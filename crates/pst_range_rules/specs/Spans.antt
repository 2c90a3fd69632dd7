-- Ranges with their spans, by the values that constants have.
use Rattle.std.specs.Prelude.{ℤ, int_lt, int_le, Bool, false, List, map, Option, Some, None, if◌then◌else◌}
use Rattle.std.specs.Int.{int_min, int_max}
use Rattle.pst_ast.specs.ExpressionTree.{ExprTree, RangeTree, RangeSingle, RangeBetween}
use Rattle.pst_ast.specs.ExpressionView.{view_range}
use Rattle.pst_ast.specs.declared.expression.NextRange.{NextRange}
use Rattle.pst_expr.specs.declared.ranges.Span.{Span}
use Rattle.pst_ast.specs.declared.referent.Finding.{Finding}
use Rattle.pst_ast.specs.NameRules.{finding}
use Rattle.pst_name_rules.specs.Leasts.{least_at}
use Rattle.pst_type_rules.specs.Domains.{span}
use Rattle.pst_type_rules.specs.Places.{range_place}
use Rattle.pst_range_rules.specs.declared.span.RangeSpan.{RangeSpan}

-- a range behind the first
abbrev pub as_range : NextRange → RangeTree
as_range next = view_range next.range

abbrev pub between : Option ℤ → Option ℤ → Option Span
between None high = None
between (Some low) None = None
between (Some low) (Some high) = Some (span low high)

-- the span of a range of constants
abbrev pub span_of : (ExprTree → Option ℤ) → RangeTree → Option Span
span_of value (RangeSingle expr) = between (value expr) (value expr)
span_of value (RangeBetween low dots high) = between (value low) (value high)

abbrev pub range_span : (ExprTree → Option ℤ) → RangeTree → RangeSpan
range_span value r = record { place = range_place r; span = span_of value r }

abbrev pub spans_of : (ExprTree → Option ℤ) → List RangeTree → List RangeSpan
spans_of value ranges = map (range_span value) ranges

-- ---- reversed ranges

abbrev pub is_reversed : Option Span → Bool
is_reversed None = false
is_reversed (Some s) = int_lt s.high s.low

abbrev pub reversed_finding : RangeSpan → Option Finding
reversed_finding r = if is_reversed r.span then finding r.place 10 else None

abbrev pub reversed_in : List RangeSpan → Option Finding
reversed_in ranges = least_at reversed_finding ranges None

-- ---- spans with a value in common

abbrev pub have_common : Span → Span → Bool
have_common s t = int_le (int_max s.low t.low) (int_min s.high t.high)

abbrev pub meet : Option Span → Option Span → Bool
meet None t = false
meet (Some s) None = false
meet (Some s) (Some t) = have_common s t
