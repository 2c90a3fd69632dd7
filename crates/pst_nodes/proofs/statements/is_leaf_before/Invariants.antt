use Rattle.std.proofs.Common.{◌<◌, ◌↔◌, length}
use Rattle.pst_nodes.specs.Over.{Over, IsAwaited}
use Rattle.pst_nodes.proofs.statements.is_leaf_before.Given as goal

abbrev pub decreases-parents : goal.decreases-parents
decreases-parents l = l.at

abbrev pub invariant-parents : goal.invariant-parents
invariant-parents l = record {
  within : l.at < length l.nodes;
  same : Over l.nodes (IsAwaited l.nodes l.leaf l.other) l.at ↔ Over l.nodes (IsAwaited l.nodes l.leaf l.other) l.leaf;
}
