use Rattle.pst_outcome.proofs.OneAnswer.{one_answer}
use Rattle.pst_outcome.proofs.laws.answers_are_one.Goals as goal

pub returns : goal.returns
returns c =
    one_answer c.each_text_has_one_reading.ensures c.each_text_has_one_outcome.ensures c.tokens_of_texts_are_one.ensures.texts c.at_most_one_unit.ensures c.answers_agree.ensures
    c.first_breaches_are_one.ensures c.answers_are_apart.ensures c.first_is_one.ensures c.runs_are_one.ensures c.traces_are_one.ensures c.checks_are_one.ensures c.bodies_end_once.ensures c.core_is_one.ensures.one c.place_answers_are_one.ensures c.static_answers_are_one.ensures c.rows_are_one.ensures
