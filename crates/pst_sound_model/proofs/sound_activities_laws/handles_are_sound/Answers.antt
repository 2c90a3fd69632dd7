use Rattle.pst_sound_model.proofs.Handles.{handles_sound}
use Rattle.pst_sound_model.proofs.sound_activities_laws.handles_are_sound.Goals as goal

pub returns : goal.returns
returns c = handles_sound
