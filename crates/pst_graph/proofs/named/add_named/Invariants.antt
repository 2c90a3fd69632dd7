use Rattle.pst_square.specs.Squares.{Adds, IsOneOf}
use Rattle.pst_graph.specs.Named.{IsNamedBy}
use Rattle.pst_graph.proofs.named.add_named.Given as goal

abbrev pub invariant-loop-x : goal.invariant-loop-x
invariant-loop-x l = Adds l.initial.square l.square (IsOneOf (IsNamedBy l.scenario) l.x)
