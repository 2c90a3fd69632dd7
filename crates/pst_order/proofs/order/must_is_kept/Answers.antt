use Rattle.pst_order.proofs.Laws.{must_ends_before}
use Rattle.pst_order.proofs.order.must_is_kept.Goals as goal

pub returns : goal.returns
returns c = must_ends_before
