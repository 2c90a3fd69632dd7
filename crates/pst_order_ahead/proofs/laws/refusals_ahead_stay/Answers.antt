use Rattle.pst_order_ahead.proofs.Refused.{refusals_stay}
use Rattle.pst_order_ahead.proofs.laws.refusals_ahead_stay.Goals as goal

pub returns : goal.returns
returns c = refusals_stay c.whole_is_sound.ensures.cycle c.orders_stay.ensures c.clashes_stay.ensures.group c.must_ahead_comes.ensures
