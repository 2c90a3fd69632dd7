use Rattle.pst_slots.proofs.Both.{slots_decided}
use Rattle.pst_slots.proofs.laws.slots_are_decided.Goals as goal

pub returns : goal.returns
returns c = slots_decided
