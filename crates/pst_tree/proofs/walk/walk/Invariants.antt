use Rattle.std.proofs.Common.{◌≤◌, ◌-◌, length}
use Rattle.pst_tree.specs.Walked.{IsWalk}
use Rattle.pst_tree.proofs.walk.walk.Given as goal

abbrev pub invariant-loop-next : goal.invariant-loop-next
invariant-loop-next l = record {
  few : length l.listed.items ≤ 256;
  walk : IsWalk l.index l.root l.listed.items l.pending.items;
}

abbrev pub decreases-loop-next : goal.decreases-loop-next
decreases-loop-next l = 257 - length l.listed.items
