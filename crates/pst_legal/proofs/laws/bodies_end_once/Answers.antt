use Rattle.pst_legal.proofs.Bodies.{bodies_end}
use Rattle.pst_legal.proofs.laws.bodies_end_once.Goals as goal

pub returns : goal.returns
returns c = bodies_end
