use Rattle.pst_sweep_table.proofs.Counted.{counted_on}
use Rattle.pst_sweep_table.proofs.counting.counts_of.Goals as goal

pub loop-act-preserved : goal.loop-act-preserved
loop-act-preserved c =
    counted_on c.args.acts.now c.loop-act.act-index c.args.types c.act-item.result c.loop-act.counts.items c.count_one.new.counts.items c.loop-act-test.true c.act-item.is c.loop-act.invariant
    c.count_one.ensures.long c.count_one.ensures.here c.count_one.ensures.others
