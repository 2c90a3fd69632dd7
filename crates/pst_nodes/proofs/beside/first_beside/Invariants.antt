use Rattle.pst_scen.specs.Plans.{StandParallel}
use Rattle.pst_nodes.proofs.BesideRange.{BoundsBelow}
use Rattle.pst_nodes.proofs.beside.first_beside.Given as goal

abbrev pub invariant-loop-a : goal.invariant-loop-a
invariant-loop-a l = BoundsBelow l.rows (StandParallel l.scenario) l.a l.least
