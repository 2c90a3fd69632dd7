use Rattle.std.proofs.Common.{refl}
use Rattle.pst_sweep_table.proofs.Used.{use_more}
use Rattle.pst_sweep_table.proofs.counting.used_types.Goals as goal

pub loop-action-preserved : goal.loop-action-preserved
loop-action-preserved c = use_more c.args.counts.now c.loop-action.used.items c.loop-action.action c.loop-action.invariant _ _ refl c.in_ok-add_use.ensures
