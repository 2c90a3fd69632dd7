use Rattle.pst_built.proofs.Read.{whole_ends}
use Rattle.pst_built.proofs.longer_laws.whole_lists_end.Goals as goal

pub returns : goal.returns
returns c = whole_ends
