use Rattle.pst_square.specs.Squares.{Adds, IsInPart}
use Rattle.pst_square.proofs.square.Square.add_part.Given as goal

abbrev pub invariant-loop-w : goal.invariant-loop-w
invariant-loop-w l = Adds l.initial.self l.self (IsInPart l.a l.from l.to l.first l.w)
