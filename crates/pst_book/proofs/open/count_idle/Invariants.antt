use Rattle.pst_book.proofs.Idle.{Counted}
use Rattle.pst_book.proofs.open.count_idle.Given as goal

abbrev pub invariant-loop-lane : goal.invariant-loop-lane
invariant-loop-lane l = Counted l.run.trace l.lane l.count
