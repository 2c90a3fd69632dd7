use Rattle.pst_printed_answers.proofs.Names.{lexed_printed}
use Rattle.pst_printed_answers.proofs.laws.names_of_models_are_printed.Goals as goal

pub returns : goal.returns
returns c = lexed_printed c.names_of_texts_are_names.ensures
