use Rattle.pst_book.proofs.Ties.{new_tied}
use Rattle.pst_book.proofs.run.Run.new.Goals as goal

pub invariant_of-result : goal.invariant_of-result
invariant_of-result c =
    new_tied c.args.plan c.args.lanes c.in_ok-trace.trace.items c.in_ok-started.started.items c.in_ok-ended.ended.items c.in_ok-awaited.awaited.items c.in_ok-in_the_way.in_the_way.items c.in_ok-next.next.items c.in_ok-holders.holders.items c.len-left.result c.len-count.result
    c.len-count.ensures.is c.len-left.ensures.is c.in_ok-trace.ensures.items c.in_ok-started.ensures c.in_ok-ended.ensures c.in_ok-awaited.ensures c.in_ok-in_the_way.ensures c.in_ok-next.ensures c.in_ok-holders.ensures
