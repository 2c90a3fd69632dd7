use Rattle.pst_built.proofs.Read.{dead_stays}
use Rattle.pst_built.proofs.longer_laws.dead_stays_dead.Goals as goal

pub returns : goal.returns
returns c = dead_stays
