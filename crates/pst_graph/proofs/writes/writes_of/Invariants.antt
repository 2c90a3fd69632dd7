use Rattle.pst_graph.specs.Writes.{ListsWrites}
use Rattle.pst_graph.proofs.writes.writes_of.Given as goal

abbrev pub invariant-loop-a : goal.invariant-loop-a
invariant-loop-a l = ListsWrites l.scenario l.writes.items l.a
