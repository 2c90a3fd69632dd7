use Rattle.std.proofs.Common.{refl}
use Rattle.pst_scen.specs.declared.act.Flow.TheVariants.{StateOut}
use Rattle.pst_link_order.proofs.Why.{refers_as}
use Rattle.pst_link_order.proofs.takes.writer_of.Goals as goal

pub returns : goal.returns
returns c =
    let f = c.in_ok-filled.filled.now in
    record { below = c.requires; writes = (f.link, refers_as c.args.scenario.now c.args.act c.args.reference f StateOut f.link c.in_ok-filled.ensures (c.is_write.ensures c.if-not-is_write.false) refl) }
