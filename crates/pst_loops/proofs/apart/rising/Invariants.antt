use Rattle.std.proofs.Common.{◌≡◌, length}
use Rattle.pst_loops.specs.Apart.{AreRising}
use Rattle.pst_loops.proofs.apart.rising.Given as goal

abbrev pub invariant-loop-at : goal.invariant-loop-at
invariant-loop-at l = record {
  long : length l.marks.items ≡ l.at;
  rising : AreRising l.edges l.levels l.marks.items;
}
