use Rattle.pst_order.proofs.Laws.{is_legal}
use Rattle.pst_order.proofs.rule.rule_is_legal.Goals as goal

pub returns : goal.returns
returns c = is_legal
