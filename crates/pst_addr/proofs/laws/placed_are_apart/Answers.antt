use Rattle.pst_addr.proofs.Placed.{apart}
use Rattle.pst_addr.proofs.laws.placed_are_apart.Goals as goal

pub returns : goal.returns
returns c = apart
