use Rattle.std.proofs.Common.{◌<◌}
use Rattle.pst_loops.specs.Edges.{IsAdded, IsEdgeFrom}
use Rattle.pst_loops.proofs.edges.add_from_each.Given as goal

abbrev pub invariant-loop-from : goal.invariant-loop-from
invariant-loop-from l = IsAdded (λ a b. (a < l.from) × IsEdgeFrom l.declarations l.place l.to a b) l.fn.rows l.rows
