use Rattle.pst_square.proofs.Closes.{ClosedBelow}
use Rattle.pst_square.proofs.closure.close.Given as goal

abbrev pub invariant-loop-m : goal.invariant-loop-m
invariant-loop-m l = ClosedBelow l.count l.row l.fn.words l.words l.m
