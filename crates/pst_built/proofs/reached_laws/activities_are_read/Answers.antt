use Rattle.pst_built.proofs.Activity.{activities_read}
use Rattle.pst_built.proofs.reached_laws.activities_are_read.Goals as goal

pub returns : goal.returns
returns c = activities_read
