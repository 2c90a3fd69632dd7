use Rattle.pst_order.proofs.Laws.{goes_on}
use Rattle.pst_order.proofs.rule.rule_goes_on.Goals as goal

pub returns : goal.returns
returns c = goes_on
