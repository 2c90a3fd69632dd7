use Rattle.std.proofs.Common.{◌≡◌, ◌+◌, ◌≤◌}
use Rattle.pst_scen.specs.Tree.{branch_of}
use Rattle.pst_refusals.proofs.places.count_between.Given as goal

abbrev pub invariant-loop-k : goal.invariant-loop-k
invariant-loop-k l = record {
  so_far : branch_of l.nodes l.parent l.k ≡ branch_of l.nodes l.parent (l.parent + 1) + l.count;
  few : l.count ≤ l.k;
}
