use Rattle.pst_link_order.proofs.Why.{earlier}
use Rattle.pst_link_order.proofs.implied.earlier_of.Goals as goal

pub returns : goal.returns
returns c = record {
  below = c.requires.writer.below;
  different = c.if-writer-source.false;
  must = earlier c.args.scenario.now c.args.plan.now c.requires.plan c.args.take c.requires.take c.args.source c.requires.source c.args.writer c.requires.writer c.requires.pool c.if-writer-source.false
      (c.is_before-2.ensures.has c.if-not-is_before.false);
}
