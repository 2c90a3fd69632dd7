use Rattle.pst_sound_model.proofs.Ties.{ties_sound}
use Rattle.pst_sound_model.proofs.sound_ties_laws.ties_are_sound.Goals as goal

pub returns : goal.returns
returns c = ties_sound
