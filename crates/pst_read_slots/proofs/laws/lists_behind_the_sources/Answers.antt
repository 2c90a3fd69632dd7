use Rattle.pst_read_slots.proofs.Through.{behind_the_sources, slots_behind}
use Rattle.pst_read_slots.proofs.laws.lists_behind_the_sources.Goals as goal

pub returns-clause-through : goal.returns-clause-through
returns-clause-through c = behind_the_sources c.activities_fill_their_root.ensures.activity

pub returns-clause-slots : goal.returns-clause-slots
returns-clause-slots c = slots_behind c.activities_fill_their_root.ensures.activity c.slots_are_placed.ensures
