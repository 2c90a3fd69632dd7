use Rattle.pst_square.specs.Squares.{Adds, IsOneOf}
use Rattle.pst_graph.specs.Writes.{IsMatchingAt}
use Rattle.pst_graph.proofs.replaced.add_matches.Given as goal

abbrev pub invariant-loop-i : goal.invariant-loop-i
invariant-loop-i l = Adds l.initial.square l.square (IsOneOf (IsMatchingAt l.scenario l.filled l.a l.writes) l.i)
