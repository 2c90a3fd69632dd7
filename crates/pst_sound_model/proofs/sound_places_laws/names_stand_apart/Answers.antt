use Rattle.pst_sound_model.proofs.Places.{stand_apart}
use Rattle.pst_sound_model.proofs.sound_places_laws.names_stand_apart.Goals as goal

pub returns : goal.returns
returns c = stand_apart
