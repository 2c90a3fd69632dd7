use Rattle.pst_sound_model.proofs.NeedsSound.{all_needs_sound}
use Rattle.pst_sound_model.proofs.sound_types_laws.needs_are_sound.Goals as goal

pub returns : goal.returns
returns c = all_needs_sound
