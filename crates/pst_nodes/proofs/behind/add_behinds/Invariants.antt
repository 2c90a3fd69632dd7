use Rattle.pst_square.specs.Squares.{Adds, IsAbove}
use Rattle.pst_nodes.specs.Tables.{StandsBefore}
use Rattle.pst_nodes.proofs.behind.add_behinds.Given as goal

abbrev pub invariant-loop-a : goal.invariant-loop-a
invariant-loop-a l = Adds l.initial.square l.square (IsAbove (StandsBefore l.nodes) l.a)
