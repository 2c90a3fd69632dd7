use Rattle.std.proofs.Common.{◌≡◌, sym, ◌∙◌}
use Rattle.std.specs.Prelude.{Some}
use Rattle.pst_ast.specs.declared.referent.Finding.{Finding}
use Rattle.pst_range_rules.specs.Meetings.{meeting_in}
use Rattle.pst_range_rules.proofs.Apart.{each_some, meeting_there}
use Rattle.pst_range_rules.proofs.meeting.meeting_at.Goals as goal

pub returns : goal.returns
returns c =
    each_some (λ (f : Finding). meeting_in c.args.ranges.now ≡ Some f) c.meeting_finding.result (λ f is.
    meeting_there c.args.ranges.now c.args.at _ f c.if-at-ranges.false (c.in_ok-are_apart.ensures c.if-not-branch.false) (c.are_behind.ensures c.if-not-are_behind.false) (sym c.meeting_finding.ensures ∙ is))
