use Rattle.pst_sound_model.proofs.Places.{own_places}
use Rattle.pst_sound_model.proofs.sound_places_laws.names_have_own_places.Goals as goal

pub returns : goal.returns
returns c = own_places
