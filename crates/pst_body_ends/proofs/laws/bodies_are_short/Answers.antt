use Rattle.pst_body_ends.proofs.Short.{bodies_short}
use Rattle.pst_body_ends.proofs.laws.bodies_are_short.Goals as goal

pub returns : goal.returns
returns c = bodies_short
