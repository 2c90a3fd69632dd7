use Rattle.pst_sound_model.proofs.Joins.{joins_sound}
use Rattle.pst_sound_model.proofs.sound_activities_laws.joins_are_sound.Goals as goal

pub returns : goal.returns
returns c = joins_sound
