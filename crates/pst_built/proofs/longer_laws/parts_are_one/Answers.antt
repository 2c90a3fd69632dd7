use Rattle.pst_built.proofs.Counts.{parts_are_one as are_one}
use Rattle.pst_built.proofs.longer_laws.parts_are_one.Goals as goal

pub returns : goal.returns
returns c = are_one
