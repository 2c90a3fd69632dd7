use Rattle.pst_square.specs.Squares.{Adds, IsAbove}
use Rattle.pst_square.specs.Spread.{IsSpread}
use Rattle.pst_square.proofs.spreading.spread_rows.Given as goal

abbrev pub invariant-loop-a : goal.invariant-loop-a
invariant-loop-a l = Adds l.initial.square l.square (IsAbove (IsSpread l.initial.square l.groups) l.a)
