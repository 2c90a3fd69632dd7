use Rattle.std.proofs.Common.{◌<◌, subst}
use Rattle.pst_link_order.proofs.Why.{later}
use Rattle.pst_link_order.proofs.implied.later_of.Goals as goal

pub returns : goal.returns
returns c = record {
  below = c.requires.take.below;
  different = c.if-take-writer.false;
  must = later c.args.scenario.now c.args.plan.now c.requires.plan c.args.take c.requires.take c.args.source c.requires.source c.args.writer c.requires.writer c.requires.pool c.if-take-writer.false
      (subst (λ n. c.args.source < n) c.requires.plan.many (c.is_before-2.ensures.first c.if-not-is_before.false)) (c.is_before-2.ensures.has c.if-not-is_before.false);
}
