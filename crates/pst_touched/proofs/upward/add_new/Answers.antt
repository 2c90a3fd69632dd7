use Rattle.pst_touched.proofs.Ways.{olds_kept, olds_more}
use Rattle.pst_touched.proofs.upward.add_new.Goals as goal

pub loop-n-preserved : goal.loop-n-preserved
loop-n-preserved c =
    let nodes = c.args.nodes.now in
    let new = c.add_above.new.found.items in
    let e = c.in_ok-last.ensures in
    (e.last, olds_more nodes c.args.from new c.loop-n.n e.old (olds_kept nodes c.args.from c.loop-n.found.items new c.loop-n.n e.kept c.loop-n.invariant.1))
