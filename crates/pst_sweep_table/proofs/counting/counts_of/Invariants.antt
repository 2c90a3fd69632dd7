use Rattle.std.proofs.Common.{take}
use Rattle.pst_sweep_table.specs.Counts.{AreCountsOf}
use Rattle.pst_sweep_table.proofs.counting.counts_of.Given as goal

abbrev pub invariant-loop-act : goal.invariant-loop-act
invariant-loop-act l = AreCountsOf (take l.act-index l.acts) l.types l.counts.items
