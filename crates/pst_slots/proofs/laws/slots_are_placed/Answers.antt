use Rattle.pst_slots.proofs.Both.{slots_placed}
use Rattle.pst_slots.proofs.laws.slots_are_placed.Goals as goal

pub returns : goal.returns
returns c = slots_placed
