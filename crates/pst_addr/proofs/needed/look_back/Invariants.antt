use Rattle.std.proofs.Common.{◌≤◌, length}
use Rattle.pst_addr.specs.Columns.{AreMarkedFrom}
use Rattle.pst_addr.proofs.needed.look_back.Given as goal

abbrev pub decreases-asks : goal.decreases-asks
decreases-asks l = l.at

abbrev pub invariant-asks : goal.invariant-asks
invariant-asks l = record {
  inside : l.at ≤ length l.asks;
  seen : AreMarkedFrom l.plan l.asks l.at l.set l.marks;
}
