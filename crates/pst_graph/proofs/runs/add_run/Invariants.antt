use Rattle.std.proofs.Common.{◌≡◌, ◌≤◌}
use Rattle.pst_scen.specs.declared.rows.Rows.{Rows}
use Rattle.pst_square.specs.Squares.{Adds, IsOneOf}
use Rattle.pst_graph.specs.Uses.{IsApartAt}
use Rattle.pst_graph.proofs.runs.add_run.Given as goal

abbrev pub invariant-loop-i : goal.invariant-loop-i
invariant-loop-i l = record {
  within : l.i ≤ l.to;
  sized : l.square.size ≡ l.initial.square.size;
  added : (first : Rows) → Adds first l.initial.square (IsOneOf (IsApartAt l.uses) l.from) → Adds first l.square (IsOneOf (IsApartAt l.uses) l.i);
}
