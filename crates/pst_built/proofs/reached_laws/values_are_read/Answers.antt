use Rattle.pst_built.proofs.ReachedWhole.{values_read}
use Rattle.pst_built.proofs.reached_laws.values_are_read.Goals as goal

pub returns : goal.returns
returns c = values_read
