use Rattle.pst_order.proofs.Laws.{no_cycle, no_clash, must_inside}
use Rattle.pst_order.proofs.order.whole_is_sound.Goals as goal

pub returns : goal.returns
returns c = record { cycle = no_cycle; clash = no_clash; inside = must_inside }
