use Rattle.pst_scen.specs.Refusals.{IsOnCycle}
use Rattle.pst_graph.proofs.Least.{HoldsNowhereBelow}
use Rattle.pst_graph.proofs.refusals.find_cycle.Given as goal

abbrev pub invariant-loop-a : goal.invariant-loop-a
invariant-loop-a l = HoldsNowhereBelow (IsOnCycle l.scenario) l.a
