use Rattle.std.proofs.Common.{below_more}
use Rattle.pst_check.proofs.checking.all_ended.Goals as goal

pub loop-a-preserved : goal.loop-a-preserved
loop-a-preserved c = below_more _ _ c.loop-a.invariant (c.has_ended.ensures.0 c.if-not-has_ended.false)
