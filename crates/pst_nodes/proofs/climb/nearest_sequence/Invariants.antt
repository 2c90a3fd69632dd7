use Rattle.std.proofs.Common.{◌<◌, ◌↔◌, ℕ, length}
use Rattle.pst_scen.specs.Tree.{IsNearestSequence}
use Rattle.pst_nodes.proofs.climb.nearest_sequence.Given as goal

abbrev pub decreases-parents : goal.decreases-parents
decreases-parents l = l.at

abbrev pub invariant-parents : goal.invariant-parents
invariant-parents l = record {
  within : l.at < length l.nodes;
  same : (top : ℕ) → IsNearestSequence l.nodes top l.at ↔ IsNearestSequence l.nodes top l.n;
}
