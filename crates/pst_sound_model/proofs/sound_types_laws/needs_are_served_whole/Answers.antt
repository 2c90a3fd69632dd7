use Rattle.pst_sound_model.proofs.ServedWhole.{needs_served}
use Rattle.pst_sound_model.proofs.sound_types_laws.needs_are_served_whole.Goals as goal

pub returns : goal.returns
returns c = needs_served c.instances_are_one.ensures c.needs_are_served.ensures
