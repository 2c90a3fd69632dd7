use Rattle.pst_front_laws.proofs.Elaborated.{elaborated_are_valued}
use Rattle.pst_front_laws.proofs.value_laws.elaborated_are_valued.Goals as goal

pub returns : goal.returns
returns c = elaborated_are_valued
