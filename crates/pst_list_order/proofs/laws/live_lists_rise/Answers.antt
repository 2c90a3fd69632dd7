use Rattle.pst_list_order.proofs.Steps.{rise}
use Rattle.pst_list_order.proofs.laws.live_lists_rise.Goals as goal

pub returns : goal.returns
returns c = rise
