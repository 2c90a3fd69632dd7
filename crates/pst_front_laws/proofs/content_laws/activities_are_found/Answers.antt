use Rattle.pst_front_laws.proofs.Contents.{activities_are_found}
use Rattle.pst_front_laws.proofs.content_laws.activities_are_found.Goals as goal

pub returns : goal.returns
returns c = activities_are_found
