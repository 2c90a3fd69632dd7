use Rattle.pst_sound_model.proofs.FewFields.{fields_few}
use Rattle.pst_sound_model.proofs.sound_types_laws.fields_are_few.Goals as goal

pub returns : goal.returns
returns c = λ units names model right kept is. fields_few units names right kept model is
