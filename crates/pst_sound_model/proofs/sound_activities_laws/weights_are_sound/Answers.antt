use Rattle.pst_sound_model.proofs.Joins.{weights_sound}
use Rattle.pst_sound_model.proofs.sound_activities_laws.weights_are_sound.Goals as goal

pub returns : goal.returns
returns c = weights_sound
