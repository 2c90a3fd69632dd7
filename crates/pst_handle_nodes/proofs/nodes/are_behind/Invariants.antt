use Rattle.std.proofs.Common.{◌≡◌, drop}
use Rattle.pst_handle_nodes.specs.Children.{are_behind}
use Rattle.pst_handle_nodes.proofs.nodes.are_behind.Given as goal

abbrev pub invariant-loop-node : goal.invariant-loop-node
invariant-loop-node l = (l.number ≡ l.node-index) × (are_behind l.node-index (drop l.node-index l.nodes) ≡ are_behind 0 l.nodes)
