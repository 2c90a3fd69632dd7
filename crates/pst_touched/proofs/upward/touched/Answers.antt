use Rattle.std.proofs.Common.{length}
use Rattle.pst_touched.proofs.Ways.{olds_kept, touched_in}
use Rattle.pst_touched.proofs.upward.touched.Goals as goal

pub returns : goal.returns
returns c =
    let nodes = c.args.nodes.now in
    let new = c.add_acts.new.found.items in
    let e = c.in_ok-add_acts.ensures in
    touched_in nodes c.args.from new c.args.fresh.now (olds_kept nodes c.args.from c.add_new.new.found.items new (length nodes) e.kept c.in_ok-add_new.ensures) e.ways
