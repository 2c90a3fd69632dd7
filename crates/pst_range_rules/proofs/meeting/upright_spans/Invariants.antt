use Rattle.std.proofs.Common.{◌≡◌, ◌++◌, drop}
use Rattle.pst_range_rules.specs.Meetings.{upright_in}
use Rattle.pst_range_rules.proofs.meeting.upright_spans.Given as goal

abbrev pub invariant-loop-range : goal.invariant-loop-range
invariant-loop-range l = l.spans.items ++ upright_in (drop l.range-index l.ranges) ≡ upright_in l.ranges
