use Rattle.pst_square.specs.Squares.{Adds, IsOneOf}
use Rattle.pst_graph.specs.Uses.{IsApartFrom}
use Rattle.pst_graph.proofs.apart.add_apart_from.Given as goal

abbrev pub invariant-loop-i : goal.invariant-loop-i
invariant-loop-i l = Adds l.initial.square l.square (IsOneOf (IsApartFrom l.u l.uses) l.i)
