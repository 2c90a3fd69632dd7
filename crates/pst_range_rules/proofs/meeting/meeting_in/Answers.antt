use Rattle.std.proofs.Common.{sym}
use Rattle.pst_range_rules.proofs.Apart.{none_meets}
use Rattle.pst_range_rules.proofs.meeting.meeting_in.Goals as goal

pub returns-then-branch : goal.returns-then-branch
returns-then-branch c = sym (none_meets c.args.ranges.now (c.in_ok-are_apart.ensures c.if-branch.true))
