use Rattle.pst_sound_model.proofs.ObjectsSound.{objects_sound}
use Rattle.pst_sound_model.proofs.sound_expressions_laws.object_constraints_are_sound.Goals as goal

pub returns : goal.returns
returns c = objects_sound
