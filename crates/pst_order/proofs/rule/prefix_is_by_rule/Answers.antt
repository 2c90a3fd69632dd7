use Rattle.pst_order.proofs.Laws.{by_rule}
use Rattle.pst_order.proofs.rule.prefix_is_by_rule.Goals as goal

pub returns : goal.returns
returns c = by_rule
