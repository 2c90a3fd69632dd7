use Rattle.std.proofs.Common.{◌≤◌}
use Rattle.pst_loops.specs.Numbers.{AreInOrderTo}
use Rattle.pst_loops.proofs.numbers.are_in_order.Given as goal

abbrev pub invariant-loop-at : goal.invariant-loop-at
invariant-loop-at l = record {
  some : 1 ≤ l.at;
  order : AreInOrderTo l.at l.declarations;
}
