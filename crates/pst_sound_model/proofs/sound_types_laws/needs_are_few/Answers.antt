use Rattle.pst_sound_model.proofs.FewNeeds.{needs_few}
use Rattle.pst_sound_model.proofs.sound_types_laws.needs_are_few.Goals as goal

pub returns : goal.returns
returns c = needs_few
