use Rattle.pst_graph.specs.Uses.{AreUses}
use Rattle.pst_graph.proofs.usage.uses_of.Given as goal

abbrev pub invariant-loop-a : goal.invariant-loop-a
invariant-loop-a l = AreUses l.scenario l.uses.items l.a
