use Rattle.pst_scen.specs.Refusals.{IsParallelOrdered}
use Rattle.pst_graph.proofs.Least.{HoldsNowhereBelow}
use Rattle.pst_graph.proofs.refusals.find_ordered_of.Given as goal

abbrev pub invariant-loop-b : goal.invariant-loop-b
invariant-loop-b l = HoldsNowhereBelow (IsParallelOrdered l.scenario l.a) l.b
