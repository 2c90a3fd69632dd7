use Rattle.pst_order.proofs.Laws.{members_are}
use Rattle.pst_order.proofs.groups.members_are_those.Goals as goal

pub returns : goal.returns
returns c = members_are
