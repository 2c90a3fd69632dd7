use Rattle.std.proofs.Common.{◌≤◌, length}
use Rattle.pst_nodes.specs.Tables.{AreEndsFrom}
use Rattle.pst_nodes.proofs.tables.ends_of.Given as goal

abbrev pub decreases-nodes : goal.decreases-nodes
decreases-nodes l = l.n

abbrev pub invariant-nodes : goal.invariant-nodes
invariant-nodes l = record { within : l.n ≤ length l.nodes; from : AreEndsFrom l.nodes l.ends.items l.n }
