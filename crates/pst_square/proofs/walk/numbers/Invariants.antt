use Rattle.pst_square.specs.Walks.{AllBelow}
use Rattle.pst_square.proofs.walk.numbers.Given as goal

abbrev pub invariant-loop-a : goal.invariant-loop-a
invariant-loop-a l = AllBelow l.size l.path.items
