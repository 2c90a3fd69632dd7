use Rattle.pst_built.proofs.Refused.{orders}
use Rattle.pst_built.proofs.order_stays_laws.orders_stay.Goals as goal

pub returns : goal.returns
returns c = orders
