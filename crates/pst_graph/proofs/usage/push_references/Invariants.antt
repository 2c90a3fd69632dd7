use Rattle.pst_graph.specs.Uses.{IsUseOfReferences, Lengthens, HasReferences}
use Rattle.pst_graph.proofs.usage.push_references.Given as goal

abbrev pub invariant-loop-i : goal.invariant-loop-i
invariant-loop-i l = record {
  longer : Lengthens l.initial.uses.items l.uses.items (IsUseOfReferences l.references l.a);
  all : HasReferences l.uses.items l.references l.a l.i;
}
