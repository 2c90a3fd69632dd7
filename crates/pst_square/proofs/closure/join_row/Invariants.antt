use Rattle.pst_square.proofs.Joins.{JoinedBelow}
use Rattle.pst_square.proofs.closure.join_row.Given as goal

abbrev pub invariant-loop-w : goal.invariant-loop-w
invariant-loop-w l = JoinedBelow l.row l.fn.words l.words l.a l.m l.w
