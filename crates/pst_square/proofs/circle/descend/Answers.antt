use Rattle.std.proofs.Common.{refl}
use Rattle.pst_square.specs.Circles.{LeadsLower}
use Rattle.pst_square.proofs.Circling.{one_more}
use Rattle.pst_square.proofs.circle.descend.Goals as goal

pub loop-a-preserved : goal.loop-a-preserved
loop-a-preserved c = one_more (LeadsLower c.args.rows.now c.args.ranks.now c.args.least) c.loop-a.a c.loop-a.invariant (c.if-not-leads_lower.ensures refl)
