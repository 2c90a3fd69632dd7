use Rattle.pst_square.specs.Bits.{GoThrough}
use Rattle.pst_square.proofs.closure.go_through.Given as goal

abbrev pub invariant-loop-a : goal.invariant-loop-a
invariant-loop-a l = GoThrough l.row l.fn.words l.words l.a l.m
