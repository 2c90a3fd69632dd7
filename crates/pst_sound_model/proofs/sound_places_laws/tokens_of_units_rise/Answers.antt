use Rattle.pst_sound_model.proofs.Units.{units_rise}
use Rattle.pst_sound_model.proofs.sound_places_laws.tokens_of_units_rise.Goals as goal

pub returns : goal.returns
returns c = λ texts names tokens units are wholes. units_rise c.tokens_are_in_order.ensures c.tokens_belong.ensures names texts tokens units are wholes
