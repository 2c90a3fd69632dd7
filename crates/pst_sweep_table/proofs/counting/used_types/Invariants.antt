use Rattle.pst_sweep_table.specs.Uses.{AreUses}
use Rattle.pst_sweep_table.proofs.counting.used_types.Given as goal

abbrev pub invariant-loop-action : goal.invariant-loop-action
invariant-loop-action l = AreUses l.counts l.action l.used.items
