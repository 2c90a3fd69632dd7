use Rattle.pst_order.proofs.Joined.{must_along}
use Rattle.pst_order.proofs.order.must_keeps_groups.Goals as goal

pub returns : goal.returns
returns c s a b d before group = must_along before group
