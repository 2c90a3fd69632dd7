use Rattle.pst_set_meaning.proofs.Orders.{pool_rules_come_first}
use Rattle.pst_set_meaning.proofs.laws.pool_rules_come_first.Goals as goal

pub returns : goal.returns
returns c = pool_rules_come_first
