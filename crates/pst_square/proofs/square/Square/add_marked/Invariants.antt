use Rattle.pst_square.specs.Marks.{IsWithMarkedAt}
use Rattle.pst_square.specs.Squares.{Adds, IsOneOf}
use Rattle.pst_square.proofs.square.Square.add_marked.Given as goal

abbrev pub invariant-loop-w : goal.invariant-loop-w
invariant-loop-w l = Adds l.initial.self l.self (IsOneOf (IsWithMarkedAt l.marks l.a) l.w)
