use Rattle.pst_sound_model.proofs.Steps.{steps_sound}
use Rattle.pst_sound_model.proofs.sound_steps_laws.steps_are_sound.Goals as goal

pub returns : goal.returns
returns c = steps_sound
