use Rattle.std.proofs.Common.{All, sym, subst}
use Rattle.pst_link_order.specs.Reasons.{IsWhy, IsReason}
use Rattle.pst_link_order.proofs.Why.{all_more}
use Rattle.pst_link_order.proofs.reasons.add_reason.Goals as goal

pub returns : goal.returns
returns c =
    let s = c.args.scenario.now in
    let P = IsReason s c.args.act in
    subst (All P) (sym c.in_ok-push.ensures.items)
    (all_more P c.args.found.now.items c.reason.result c.requires.before (record {
      other = c.args.other;
      below = c.requires.below;
      different = c.requires.different;
      link = c.reason.ensures.leads;
      why = subst (IsWhy s c.args.act c.args.other) (sym c.reason.ensures.flow) c.requires.why;
    }))
