use Rattle.pst_sound_model.proofs.AllBodies.{all_sound}
use Rattle.pst_sound_model.proofs.sound_bodies_laws.bodies_are_sound.Goals as goal

pub returns : goal.returns
returns c = all_sound
