use Rattle.pst_scen.proofs.Nodes.{before_itself}
use Rattle.pst_scen.proofs.laws.before_is_never_itself.Goals as goal

pub returns : goal.returns
returns c = before_itself
