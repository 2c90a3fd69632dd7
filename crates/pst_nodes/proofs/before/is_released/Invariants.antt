use Rattle.std.proofs.Common.{◌<◌, ◌↔◌, length}
use Rattle.pst_nodes.specs.Over.{Over, IsFree}
use Rattle.pst_nodes.proofs.before.is_released.Given as goal

abbrev pub decreases-parents : goal.decreases-parents
decreases-parents l = l.at

abbrev pub invariant-parents : goal.invariant-parents
invariant-parents l = record {
  within : l.at < length l.nodes;
  same : Over l.nodes (IsFree l.nodes l.sequence) l.at ↔ Over l.nodes (IsFree l.nodes l.sequence) l.leaf;
}
