use Rattle.pst_link_order.proofs.Why.{named}
use Rattle.pst_link_order.proofs.reasons.add_named.Goals as goal

pub add_reason-requires-clause-why : goal.add_reason-requires-clause-why
add_reason-requires-clause-why c =
    named c.args.scenario.now c.args.act c.args.reference c.in-Some-other_of.other c.in-Some.filled.now c.in-Some-kind_of.kind c.in-Some.ensures c.in-Some-other_of.ensures.different c.in-Some-other_of.ensures.leads c.in-Some-kind_of.ensures
