use Rattle.std.proofs.Common.{refl, subst}
use Rattle.pst_scen.specs.declared.act.Flow.TheVariants.{StateOut}
use Rattle.pst_scen.specs.Flows.{Writes}
use Rattle.pst_link_order.proofs.Why.{refers_as}
use Rattle.pst_link_order.proofs.uses.writes_pool.Goals as goal

pub returns-then-filled-pool : goal.returns-then-filled-pool
returns-then-filled-pool c =
    let s = c.args.scenario.now in
    let f = c.in-Some.filled.now in
    λ _. (f.link, subst (λ pool. Writes s c.args.act pool f.link) c.if-filled-pool.true (refers_as s c.args.act c.loop-reference.reference f StateOut f.link c.in-Some.ensures (c.is_write.ensures c.if-is_write.true) refl))
