use Rattle.std.proofs.Common.{◌<◌, ◌↔◌, length}
use Rattle.pst_nodes.specs.Over.{Over, IsBranchBeside}
use Rattle.pst_nodes.proofs.parallel.are_leaves_parallel.Given as goal

abbrev pub decreases-parents : goal.decreases-parents
decreases-parents l = l.at

abbrev pub invariant-parents : goal.invariant-parents
invariant-parents l = record {
  within : l.at < length l.nodes;
  same : Over l.nodes (IsBranchBeside l.nodes l.other) l.at ↔ Over l.nodes (IsBranchBeside l.nodes l.other) l.leaf;
}
