use Rattle.pst_square.specs.Squares.{Adds, IsOneOf}
use Rattle.pst_graph.specs.Writes.{ReadsMatchingAt}
use Rattle.pst_graph.proofs.replaced.add_readings.Given as goal

abbrev pub invariant-loop-i : goal.invariant-loop-i
invariant-loop-i l = Adds l.initial.square l.square (IsOneOf (ReadsMatchingAt l.scenario l.a l.writes l.references) l.i)
