use Rattle.std.proofs.Common.{◌≡◌, ◌+◌, ◌++◌, length}
use Rattle.pst_tree.specs.Lasts.{lasts_from}
use Rattle.pst_tree.proofs.lasts.with_lasts.Given as goal

abbrev pub invariant-loop-instance : goal.invariant-loop-instance
invariant-loop-instance l = record {
  counted : length l.found.items + length l.left ≡ length l.instances;
  lasts : l.found.items ++ lasts_from (length l.found.items) l.left ≡ lasts_from 0 l.instances;
}

abbrev pub decreases-loop-instance : goal.decreases-loop-instance
decreases-loop-instance l = length l.left
