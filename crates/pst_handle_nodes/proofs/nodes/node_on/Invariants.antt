use Rattle.std.proofs.Common.{◌≡◌, drop}
use Rattle.pst_legal.specs.Statements.{node_on}
use Rattle.pst_handle_nodes.proofs.nodes.node_on.Given as goal

abbrev pub invariant-loop-index : goal.invariant-loop-index
invariant-loop-index l = node_on l.nodes l.node (drop l.index-index l.way) ≡ node_on l.nodes l.top l.way
