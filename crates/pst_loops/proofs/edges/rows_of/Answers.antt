use Rattle.std.proofs.Common.{sym, subst, ℕ}
use Rattle.pst_loops.specs.Graph.{Graph, HasEdge}
use Rattle.pst_loops.proofs.edges.rows_of.Goals as goal

pub add_all-requires-clause-none : goal.add_all-requires-clause-none
add_all-requires-clause-none c = subst (λ (x : Graph). (a b : ℕ) → HasEdge x a b → ⊥) (sym c.as_mut_slice.ensures.value) c.in_ok-rows.ensures.none
