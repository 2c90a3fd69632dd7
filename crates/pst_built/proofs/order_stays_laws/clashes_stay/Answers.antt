use Rattle.pst_built.proofs.Refused.{cycles, group_clashes, own_clashes}
use Rattle.pst_built.proofs.order_stays_laws.clashes_stay.Goals as goal

pub returns-clause-cycle : goal.returns-clause-cycle
returns-clause-cycle c = cycles c.whole_is_sound.ensures.cycle

pub returns-clause-group : goal.returns-clause-group
returns-clause-group c = group_clashes c.whole_is_sound.ensures.clash

pub returns-clause-own : goal.returns-clause-own
returns-clause-own c = own_clashes
