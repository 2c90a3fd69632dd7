use Rattle.pst_square.specs.Squares.{Adds, IsAbove}
use Rattle.pst_graph.specs.Listed.{IsReplacing}
use Rattle.pst_graph.proofs.replaced.add_replacing_rows.Given as goal

abbrev pub invariant-loop-a : goal.invariant-loop-a
invariant-loop-a l = Adds l.initial.square l.square (IsAbove (IsReplacing l.scenario) l.a)
