use Rattle.pst_sound_model.proofs.laws.models_of_texts_are_sound.Goals as goal

pub returns : goal.returns
returns c = λ texts names tokens units component action model root are wholes e.
    c.models_are_sound.ensures units names component action model root (c.tokens_of_units_rise.ensures texts names tokens units are wholes) e
