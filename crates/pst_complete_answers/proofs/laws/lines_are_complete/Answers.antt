use Rattle.pst_complete_answers.proofs.Complete.{line_laws, legal_lines, found_lines, other_lines, swept_lines}
use Rattle.pst_complete_answers.proofs.laws.lines_are_complete.Goals as goal

pub returns : goal.returns
returns c =
    let laws = line_laws c.each_text_has_one_reading.ensures c.each_text_has_one_outcome.ensures c.tokens_of_texts_are_one.ensures.texts c.at_most_one_unit.ensures c.answers_agree.ensures
    c.first_breaches_are_one.ensures c.answers_are_apart.ensures c.first_is_one.ensures c.few_lists_spend_no_budget.ensures.found c.few_lists_spend_no_budget.ensures.done in
    record { found = found_lines laws; legal = legal_lines laws; none = other_lines laws; swept = swept_lines laws }
