use Rattle.pst_model_answers.proofs.found.reply_to_static.Goals as goal

pub show_static-requires-clause-planned : goal.show_static-requires-clause-planned
show_static-requires-clause-planned c = c.requires.ready.planned

pub show_static-requires-clause-some : goal.show_static-requires-clause-some
show_static-requires-clause-some c = c.requires.lanes.0

pub show_static-requires-clause-few : goal.show_static-requires-clause-few
show_static-requires-clause-few c = c.requires.lanes.1

pub returns : goal.returns
returns c = (c.in_ok-shown.shown.answer, c.in_ok-shown.ensures, c.answer_of_programs.ensures)
