use Rattle.pst_sound_model.proofs.PoolsSound.{pools_sound}
use Rattle.pst_sound_model.proofs.sound_types_laws.pools_are_sound.Goals as goal

pub returns : goal.returns
returns c = pools_sound
