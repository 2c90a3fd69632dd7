use Rattle.std.proofs.Common.{◌≡◌, ◌+◌, ◌≤◌, length, drop}
use Rattle.pst_scen.specs.Scenarios.{leaves_of}
use Rattle.pst_open_ends.specs.Changes.{leaves_from}
use Rattle.pst_open_ends.proofs.acts.leaf_count.Given as goal

abbrev pub invariant-loop-node : goal.invariant-loop-node
invariant-loop-node l = (l.count + length (leaves_from l.node-index (drop l.node-index l.nodes)) ≡ length (leaves_of l.nodes)) × (l.count ≤ l.node-index)
