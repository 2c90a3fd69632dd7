use Rattle.pst_own_names.proofs.Named.{names_are_names}
use Rattle.pst_own_names.proofs.laws.names_of_texts_are_names.Goals as goal

pub returns : goal.returns
returns c = names_are_names
