use Rattle.pst_order.proofs.Laws.{is_prefix}
use Rattle.pst_order.proofs.rule.rule_is_prefix.Goals as goal

pub returns : goal.returns
returns c = is_prefix
