use Rattle.pst_built.proofs.Refused.{parallel_clashes, parallel_orders}
use Rattle.pst_built.proofs.order_stays_laws.parallel_disputes_stay.Goals as goal

pub returns-clause-orders : goal.returns-clause-orders
returns-clause-orders c = parallel_orders

pub returns-clause-clashes : goal.returns-clause-clashes
returns-clause-clashes c = parallel_clashes
