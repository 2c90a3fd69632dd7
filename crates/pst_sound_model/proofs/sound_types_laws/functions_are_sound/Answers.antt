use Rattle.pst_sound_model.proofs.FewNeeds.{few}
use Rattle.pst_sound_model.proofs.FunctionsSound.{functions_sound}
use Rattle.pst_sound_model.proofs.sound_types_laws.functions_are_sound.Goals as goal

pub returns : goal.returns
returns c = functions_sound few
