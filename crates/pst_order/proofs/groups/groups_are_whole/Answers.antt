use Rattle.pst_order.proofs.Laws.{groups_whole, groups_one}
use Rattle.pst_order.proofs.groups.groups_are_whole.Goals as goal

pub returns : goal.returns
returns c = record { whole = groups_whole; one = groups_one }
