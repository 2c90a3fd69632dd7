use Rattle.pst_numbers.proofs.InOrder.{same_on, same_at_end}
use Rattle.pst_numbers.proofs.in_order.each_once.Goals as goal

pub loop-meaning-preserved : goal.loop-meaning-preserved
loop-meaning-preserved c = record {
  order = c.in_ok-add.ensures.order c.loop-meaning.invariant.order;
  each = same_on c.args.sorted.now c.loop-meaning.found.items c.add.new.found.items c.loop-meaning.meaning-index _ c.loop-meaning-test.true c.loop-meaning.invariant.each c.in_ok-add.ensures.each;
}

pub returns-clause-each : goal.returns-clause-each
returns-clause-each c = same_at_end c.args.sorted.now c.loop-meaning.found.items c.loop-meaning.meaning-index c.loop-meaning-test.false c.loop-meaning.invariant.each
