use Rattle.std.proofs.Common.{◌≡◌, ℕ, length}
use Rattle.pst_loops.specs.Graph.{HasEdge}
use Rattle.pst_loops.proofs.edges.without_edges.Given as goal

abbrev pub invariant-loop-at : goal.invariant-loop-at
invariant-loop-at l = record {
  long : length l.rows.items ≡ l._at;
  none : (a b : ℕ) → HasEdge l.rows.items a b → ⊥;
}
