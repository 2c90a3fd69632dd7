use Rattle.std.proofs.Common.{ℕ, ◌<◌, get_or}
use Rattle.pst_base.specs.Places.{IsBefore}
use Rattle.pst_range_rules.specs.declared.span.RangeSpan.{RangeSpan}
use Rattle.pst_range_rules.proofs.meeting.are_behind.Given as goal

abbrev pub invariant-loop-range : goal.invariant-loop-range
invariant-loop-range l = (k : ℕ) (d : RangeSpan) → k < l.range-index → IsBefore l.place (get_or l.ranges k d).place
