use Rattle.pst_addr.proofs.Placed.{running}
use Rattle.pst_addr.proofs.laws.running_actions_meet.Goals as goal

pub returns : goal.returns
returns c = running c.running_meet.ensures
