use Rattle.pst_sound_model.proofs.FieldsSound.{fields_sound}
use Rattle.pst_sound_model.proofs.sound_types_laws.fields_are_sound.Goals as goal

pub returns : goal.returns
returns c = fields_sound
