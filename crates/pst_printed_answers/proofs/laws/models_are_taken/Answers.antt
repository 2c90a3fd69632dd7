use Rattle.pst_printed_answers.proofs.Models.{models_taken}
use Rattle.pst_printed_answers.proofs.laws.models_are_taken.Goals as goal

pub returns : goal.returns
returns c = models_taken c.scenarios_are_taken.ensures c.first_is_one.ensures c.whole_readings_are_built.ensures.built
