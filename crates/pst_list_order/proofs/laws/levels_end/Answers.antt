use Rattle.pst_list_order.proofs.Steps.{ends}
use Rattle.pst_list_order.proofs.laws.levels_end.Goals as goal

pub returns : goal.returns
returns c = ends c.legal_scenarios_are_read.ensures.legal
