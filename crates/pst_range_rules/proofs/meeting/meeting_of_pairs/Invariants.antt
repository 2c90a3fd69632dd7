use Rattle.std.proofs.Common.{◌≡◌, take, drop}
use Rattle.pst_range_rules.specs.Meetings.{meeting_from, meeting_in}
use Rattle.pst_range_rules.proofs.meeting.meeting_of_pairs.Given as goal

abbrev pub invariant-loop-at : goal.invariant-loop-at
invariant-loop-at l = meeting_from (take l.at l.ranges) (drop l.at l.ranges) l.found ≡ meeting_in l.ranges
