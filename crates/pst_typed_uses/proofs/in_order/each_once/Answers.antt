use Rattle.pst_typed_uses.proofs.InOrder.{same_on, same_at_end}
use Rattle.pst_typed_uses.proofs.in_order.each_once.Goals as goal

pub loop-constant-preserved : goal.loop-constant-preserved
loop-constant-preserved c = record {
  order = c.in_ok-add.ensures.order c.loop-constant.invariant.order;
  each = same_on c.args.sorted.now c.loop-constant.found.items c.add.new.found.items c.loop-constant.constant-index _ c.loop-constant-test.true c.loop-constant.invariant.each c.in_ok-add.ensures.each;
}

pub returns-clause-each : goal.returns-clause-each
returns-clause-each c = same_at_end c.args.sorted.now c.loop-constant.found.items c.loop-constant.constant-index c.loop-constant-test.false c.loop-constant.invariant.each
