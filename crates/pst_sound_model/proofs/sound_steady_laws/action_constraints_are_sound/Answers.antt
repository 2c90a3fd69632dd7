use Rattle.pst_sound_model.proofs.Constraints.{constraints_sound}
use Rattle.pst_sound_model.proofs.sound_steady_laws.action_constraints_are_sound.Goals as goal

pub returns : goal.returns
returns c = constraints_sound
