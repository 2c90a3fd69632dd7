use Rattle.pst_reduction.proofs.Rows.{TakenBelow}
use Rattle.pst_reduction.proofs.reducing.take_row.Given as goal

abbrev pub invariant-loop-w : goal.invariant-loop-w
invariant-loop-w l = TakenBelow l.row l.whole l.fn.words l.words l.a l.c l.w
