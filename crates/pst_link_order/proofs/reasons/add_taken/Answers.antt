use Rattle.pst_link_order.proofs.Why.{taken}
use Rattle.pst_link_order.proofs.reasons.add_taken.Goals as goal

pub add_reason-requires-clause-why : goal.add_reason-requires-clause-why
add_reason-requires-clause-why c =
    taken c.args.scenario.now c.args.take c.args.act c.args.reference c.args.filled.now c.requires.take c.requires.is c.requires.writes (c.comes_before.ensures c.if-comes_before.true)
