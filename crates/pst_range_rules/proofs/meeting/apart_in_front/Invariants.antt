use Rattle.std.proofs.Common.{◌≤◌, length}
use Rattle.pst_range_rules.proofs.meeting.apart_in_front.Given as goal

abbrev pub invariant-loop-step : goal.invariant-loop-step
invariant-loop-step l = (l.apart ≤ l.meeting) × (l.meeting ≤ length l.ranges)
