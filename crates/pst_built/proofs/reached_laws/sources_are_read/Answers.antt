use Rattle.pst_built.proofs.ReachedWhole.{sources_read}
use Rattle.pst_built.proofs.reached_laws.sources_are_read.Goals as goal

pub returns : goal.returns
returns c = sources_read
