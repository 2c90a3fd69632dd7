use Rattle.pst_scen.proofs.Blocks.{prefixes}
use Rattle.pst_scen.proofs.laws.prefixes_are_legal.Goals as goal

pub returns : goal.returns
returns c = prefixes
