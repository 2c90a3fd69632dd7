use Rattle.pst_list_order.proofs.Order.{before_then, not_itself}
use Rattle.pst_list_order.proofs.laws.before_is_an_order.Goals as goal

pub returns-clause-strict : goal.returns-clause-strict
returns-clause-strict c = not_itself

pub returns-clause-on : goal.returns-clause-on
returns-clause-on c = before_then
