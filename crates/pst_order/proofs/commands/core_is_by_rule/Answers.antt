use Rattle.pst_order.proofs.Laws.{core_by_rule}
use Rattle.pst_order.proofs.commands.core_is_by_rule.Goals as goal

pub returns : goal.returns
returns c = core_by_rule
