use Rattle.pst_order.proofs.Laws.{core_one, core_grows, again}
use Rattle.pst_order.proofs.commands.core_is_one.Goals as goal

pub returns : goal.returns
returns c = record { one = core_one; grows = core_grows; again = again }
