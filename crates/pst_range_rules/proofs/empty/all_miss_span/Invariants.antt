use Rattle.std.proofs.Common.{◌≡◌, drop}
use Rattle.pst_expr.specs.declared.ranges.Span.{Span}
use Rattle.pst_range_rules.specs.Spans.{have_common}
use Rattle.pst_range_rules.specs.Types.{clamped, keeps_nothing}
use Rattle.pst_range_rules.proofs.empty.all_miss_span.Given as goal

abbrev pub invariant-loop-range : goal.invariant-loop-range
invariant-loop-range l = (whole : Span) → l.base ≡ clamped whole → keeps_nothing (have_common whole) (drop l.range-index l.ranges) ≡ keeps_nothing (have_common whole) l.ranges
