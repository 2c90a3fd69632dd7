use Rattle.std.proofs.Common.{arith}
use Rattle.pst_supply.proofs.walk.look_behind.Goals as goal

pub returns-in-Err-clause-room : goal.returns-in-Err-clause-room
returns-in-Err-clause-room c = λ n p. omega (arith, c.follow.ensures.room n p, c.leave.ensures.room n p)
