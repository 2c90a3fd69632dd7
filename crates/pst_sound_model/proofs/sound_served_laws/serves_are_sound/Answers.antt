use Rattle.pst_sound_model.proofs.Serves.{serves_sound}
use Rattle.pst_sound_model.proofs.sound_served_laws.serves_are_sound.Goals as goal

pub returns : goal.returns
returns c = serves_sound
