use Rattle.pst_order_ahead.proofs.Comes.{must_comes}
use Rattle.pst_order_ahead.proofs.laws.must_ahead_comes.Goals as goal

pub returns : goal.returns
returns c = must_comes c.whole_is_sound.ensures.cycle c.must_keeps_groups.ensures c.orders_stay.ensures
