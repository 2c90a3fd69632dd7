use Rattle.pst_read_so_far.proofs.Slots.{slots_wait}
use Rattle.pst_read_so_far.proofs.laws.open_slots_wait.Goals as goal

pub returns : goal.returns
returns c = slots_wait c.acts_are_of_their_types.ensures c.links_join_open_ends.ensures
