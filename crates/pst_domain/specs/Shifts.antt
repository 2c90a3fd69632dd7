-- Shifts of spans.
use Rattle.std.specs.Prelude.{ℤ, pos, int_lt, ◌&&◌, ◌||◌, Option, None, if◌then◌else◌}
use Rattle.pst_expr.specs.declared.ranges.Span.{Span}
use Rattle.pst_domain.specs.Cut.{whole, is_point, at_points}

-- counts that are all outside 0 to 63 give none, and others all values
abbrev pub shift_by_some : Span → Option Span
shift_by_some t = if int_lt t.high (pos 0) || int_lt (pos 63) t.low then None else whole

-- two points give the span of the value
abbrev pub shift_span : (ℤ → ℤ → Option ℤ) → Span → Span → Option Span
shift_span f s t = if is_point s && is_point t then at_points f s t else shift_by_some t
