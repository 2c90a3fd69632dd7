use Rattle.pst_graph.specs.Uses.{IsUseOfClaims, Lengthens, HasClaims}
use Rattle.pst_graph.proofs.usage.push_claims.Given as goal

abbrev pub invariant-loop-i : goal.invariant-loop-i
invariant-loop-i l = record {
  longer : Lengthens l.initial.uses.items l.uses.items (IsUseOfClaims l.claims l.a);
  all : HasClaims l.uses.items l.claims l.a l.i;
}
