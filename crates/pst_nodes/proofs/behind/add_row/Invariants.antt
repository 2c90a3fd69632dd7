use Rattle.std.proofs.Common.{◌≡◌, ◌<◌, length}
use Rattle.pst_scen.specs.declared.rows.Rows.{Rows}
use Rattle.pst_nodes.specs.Over.{Over}
use Rattle.pst_square.specs.Squares.{Adds, IsInRow}
use Rattle.pst_nodes.specs.Tables.{IsBehind}
use Rattle.pst_nodes.proofs.behind.add_row.Given as goal

abbrev pub decreases-parents : goal.decreases-parents
decreases-parents l = l.at

abbrev pub invariant-parents : goal.invariant-parents
invariant-parents l = record {
  within : l.at < length l.nodes;
  size : l.square.size ≡ l.initial.square.size;
  rest : (last : Rows) → Adds l.square last (IsInRow (λ c d. Over l.nodes (λ n. IsBehind l.nodes l.leaf n d) l.at) l.a) → Adds l.initial.square last (IsInRow (λ c d. Over l.nodes (λ n. IsBehind l.nodes l.leaf n d) l.leaf) l.a);
}
