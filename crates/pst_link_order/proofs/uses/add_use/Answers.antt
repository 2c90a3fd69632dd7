use Rattle.std.proofs.Common.{All, sym, subst}
use Rattle.pst_link_order.specs.Reasons.{IsUse}
use Rattle.pst_link_order.proofs.Why.{all_more, used}
use Rattle.pst_link_order.proofs.uses.add_use.Goals as goal

pub returns : goal.returns
returns c =
    let s = c.args.scenario.now in
    let P = IsUse s c.args.act in
    let f = c.in-Some.filled.now in
    subst (All P) (sym c.in_ok-push.ensures.items)
    (all_more P c.args.found.now.items (record { pool = f.pool; lock = c.writes_pool-lock.result; instance = 0; values = c.empty.result }) c.requires
    (record { uses = used s c.args.act c.args.reference f c.in-Some.ensures (c.is_state.ensures c.if-not-is_state.false); writes = c.writes_pool-lock.ensures }))
