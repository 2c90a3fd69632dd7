use Rattle.pst_nodes.specs.Tables.{AreLeaves}
use Rattle.pst_nodes.proofs.tables.leaves_of.Given as goal

abbrev pub invariant-loop-n : goal.invariant-loop-n
invariant-loop-n l = AreLeaves l.nodes l.leaves.items l.n
