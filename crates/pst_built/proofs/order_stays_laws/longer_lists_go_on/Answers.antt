use Rattle.pst_built.proofs.OrderStaysLonger.{longer_go_on}
use Rattle.pst_built.proofs.order_stays_laws.longer_lists_go_on.Goals as goal

pub returns : goal.returns
returns c = longer_go_on
