use Rattle.pst_square.specs.Squares.{Adds, IsOneOf}
use Rattle.pst_graph.specs.Named.{IsNamingAt}
use Rattle.pst_graph.proofs.named.add_namings.Given as goal

abbrev pub invariant-loop-i : goal.invariant-loop-i
invariant-loop-i l = Adds l.initial.square l.square (IsOneOf (IsNamingAt l.references l.x) l.i)
