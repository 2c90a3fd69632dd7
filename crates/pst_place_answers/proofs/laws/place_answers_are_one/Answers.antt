use Rattle.pst_place_answers.proofs.OneAnswer.{answers_one}
use Rattle.pst_place_answers.proofs.laws.place_answers_are_one.Goals as goal

pub returns : goal.returns
returns c = answers_one c.places_are_one.ensures.one c.places_are_one.ensures.either c.places_are_one.ensures.no_room c.asks_are_of_plan.ensures
