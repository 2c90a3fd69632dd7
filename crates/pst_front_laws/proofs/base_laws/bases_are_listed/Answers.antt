use Rattle.pst_front_laws.proofs.Listed.{bases_are_listed}
use Rattle.pst_front_laws.proofs.base_laws.bases_are_listed.Goals as goal

pub returns : goal.returns
returns c = bases_are_listed
