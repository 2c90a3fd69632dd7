use Rattle.pst_sound_model.proofs.Rooted.{roots_concrete}
use Rattle.pst_sound_model.proofs.sound_root_laws.roots_are_concrete.Goals as goal

pub returns : goal.returns
returns c = roots_concrete
