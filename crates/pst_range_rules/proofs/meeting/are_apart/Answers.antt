use Rattle.pst_range_rules.proofs.Apart.{apart_when}
use Rattle.pst_range_rules.proofs.meeting.are_apart.Goals as goal

pub returns : goal.returns
returns c = λ yes. apart_when c.args.ranges.now c.in_ok-spans.spans.items c.sort_by_low.new.spans.items c.as_slice.result.now c.are_ascending.result
    c.in_ok-spans.ensures c.sort_by_low.ensures c.as_slice.ensures.value c.are_ascending.ensures yes
