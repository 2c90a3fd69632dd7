use Rattle.std.proofs.Common.{arith}
use Rattle.pst_model_answers.proofs.found.reply_to_place.Goals as goal

pub show_places-requires-clause-planned : goal.show_places-requires-clause-planned
show_places-requires-clause-planned c = c.requires.ready.planned

pub show_places-requires-clause-small : goal.show_places-requires-clause-small
show_places-requires-clause-small c = let small = c.requires.ready.small in omega (arith, small)

pub returns : goal.returns
returns c = (c.in_ok-shown.shown.answer, c.in_ok-shown.ensures, c.answer_of_places.ensures)
