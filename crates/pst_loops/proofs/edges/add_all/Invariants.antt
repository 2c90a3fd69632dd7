use Rattle.pst_loops.specs.Edges.{HasEdges, IsGivenBy}
use Rattle.pst_loops.proofs.edges.add_all.Given as goal

abbrev pub invariant-loop-at : goal.invariant-loop-at
invariant-loop-at l = HasEdges l.index (IsGivenBy l.at l.index) l.rows
