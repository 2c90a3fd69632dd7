use Rattle.pst_evaluate.proofs.ConstantsFound as found
use Rattle.pst_evaluate.proofs.laws.constants_are_found.Goals as goal

pub returns : goal.returns
returns c = found.constants_are_found
