use Rattle.pst_printed_lines.proofs.Taken.{lines_taken}
use Rattle.pst_printed_lines.proofs.laws.lines_are_taken.Goals as goal

pub returns : goal.returns
returns c =
    lines_taken
    (record {
      readings = c.each_text_has_one_reading.ensures;
      outcomes = c.each_text_has_one_outcome.ensures;
      texts = c.tokens_of_texts_are_one.ensures.texts;
      trees = c.at_most_one_unit.ensures;
      agree = c.answers_agree.ensures;
      breaches = c.first_breaches_are_one.ensures;
      apart = c.answers_are_apart.ensures;
    })
    c.models_are_taken.ensures c.names_of_models_are_printed.ensures
