use Rattle.std.proofs.Common.{◌+◌, ◌≤◌, length, take}
use Rattle.pst_loops.specs.Graph.{IsRow}
use Rattle.pst_loops.specs.Search.{IsSearch, IsReached, IsGone, work}
use Rattle.pst_loops.proofs.search.expand.Given as goal

abbrev pub invariant-loop-next : goal.invariant-loop-next
invariant-loop-next l = record {
  search : IsSearch l.edges l.from l.to l.marks l.stack.items (IsGone l.top (take l.next-index l.next-items));
  row : IsRow l.edges l.top l.next-items;
  reached : IsReached l.from l.marks l.top;
  falls : work l.marks + length l.stack.items ≤ work l.fn.marks + length l.fn.stack.items;
}
