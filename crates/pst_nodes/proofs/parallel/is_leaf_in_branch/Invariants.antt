use Rattle.std.proofs.Common.{◌<◌, ◌↔◌, length}
use Rattle.pst_nodes.specs.Over.{Over, IsBranch}
use Rattle.pst_nodes.proofs.parallel.is_leaf_in_branch.Given as goal

abbrev pub decreases-parents : goal.decreases-parents
decreases-parents l = l.at

abbrev pub invariant-parents : goal.invariant-parents
invariant-parents l = record {
  within : l.at < length l.nodes;
  same : Over l.nodes (IsBranch l.nodes) l.at ↔ Over l.nodes (IsBranch l.nodes) l.leaf;
}
