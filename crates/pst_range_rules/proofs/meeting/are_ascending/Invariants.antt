use Rattle.std.proofs.Common.{◌≡◌, drop}
use Rattle.std.specs.Prelude.{None}
use Rattle.pst_range_rules.specs.Meetings.{is_ascending}
use Rattle.pst_range_rules.proofs.meeting.are_ascending.Given as goal

abbrev pub invariant-loop-span : goal.invariant-loop-span
invariant-loop-span l = is_ascending l.before (drop l.span-index l.spans) ≡ is_ascending None l.spans
