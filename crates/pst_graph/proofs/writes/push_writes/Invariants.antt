use Rattle.pst_graph.specs.Uses.{Lengthens}
use Rattle.pst_graph.specs.Writes.{IsWriteBy, HasWrites}
use Rattle.pst_graph.proofs.writes.push_writes.Given as goal

abbrev pub invariant-loop-i : goal.invariant-loop-i
invariant-loop-i l = record {
  longer : Lengthens l.initial.writes.items l.writes.items (IsWriteBy l.a);
  all : HasWrites l.writes.items l.references l.a l.i;
}
