use Rattle.std.proofs.Common.{◌≡◌, ◌<◌, length}
use Rattle.pst_scen.specs.Rows.{row_words}
use Rattle.pst_addr.specs.Columns.{IsColumn, AreMarked}
use Rattle.pst_addr.proofs.OneMore.{AreSoFar}
use Rattle.pst_addr.proofs.placing.place.Given as goal

abbrev pub invariant-loop-k : goal.invariant-loop-k
invariant-loop-k l = record {
  so_far : AreSoFar l.plan l.fn.space l.asks l.places.items l.ranges.items l.k;
  many : length l.column.items ≡ length l.plan.groups;
  held : l.held < row_words (length l.plan.groups) → IsColumn l.plan.must l.held l.column.items;
}
