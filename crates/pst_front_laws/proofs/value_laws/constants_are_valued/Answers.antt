use Rattle.pst_front_laws.proofs.Valued.{constants_are_valued}
use Rattle.pst_front_laws.proofs.value_laws.constants_are_valued.Goals as goal

pub returns : goal.returns
returns c = constants_are_valued
