use Rattle.pst_order.proofs.Laws.{one_blocks}
use Rattle.pst_order.proofs.order.blocks_are_one.Goals as goal

pub returns : goal.returns
returns c = one_blocks
