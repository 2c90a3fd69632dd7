use Rattle.std.proofs.Common.{◌<◌, ◌≤◌, length}
use Rattle.pst_nodes.proofs.BesideRange.{Rest}
use Rattle.pst_nodes.proofs.beside.bound_over.Given as goal

abbrev pub decreases-parents : goal.decreases-parents
decreases-parents l = l.at

abbrev pub invariant-parents : goal.invariant-parents
invariant-parents l = record { within : l.at < length l.nodes; lower : l.least ≤ l.bound; rest : Rest l.nodes l.rows l.a l.leaf l.at l.least }
