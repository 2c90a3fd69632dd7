use Rattle.std.proofs.Common.{ap, length, length-append, arith}
use Rattle.pst_narrow.proofs.NotedLemmas.{none_more}
use Rattle.pst_narrow.proofs.watch.empty_rows.Goals as goal

pub loop-at-preserved : goal.loop-at-preserved
loop-at-preserved c = record {
  long = (let n = simp length-append at (ap length c.in_ok-push.ensures.items) in let m = c.loop-at.invariant.long in omega arith);
  none = none_more c.loop-at.rows.items c.push.new.self.items c.new.result c.in_ok-push.ensures.items c.new.ensures.items c.loop-at.invariant.none;
}
