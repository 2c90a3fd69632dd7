use Rattle.pst_order.proofs.Laws.{running}
use Rattle.pst_order.proofs.order.running_meet.Goals as goal

pub returns : goal.returns
returns c = running
