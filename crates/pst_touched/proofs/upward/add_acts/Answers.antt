use Rattle.std.proofs.Common.{length, refl}
use Rattle.std.proofs.lemmas.Option.{slice_get_read}
use Rattle.pst_touched.proofs.Ways.{ways_kept, ways_more}
use Rattle.pst_touched.proofs.upward.add_acts.Goals as goal

pub loop-act-preserved : goal.loop-act-preserved
loop-act-preserved c =
    let nodes = c.args.nodes.now in
    let fresh = c.args.fresh.now in
    let i = c.loop-act.act-index in
    let new = c.add_act.new.found.items in
    let e = c.in_ok-add_act.ensures in (
      λ n has. e.kept n (c.loop-act.invariant.0 n has),
      ways_more nodes c.args.from new fresh i c.act-item.result (slice_get_read fresh (length fresh) i c.act-item.result refl c.loop-act-test.true c.act-item.is) e.way
          (ways_kept nodes c.args.from c.loop-act.found.items new fresh i e.kept c.loop-act.invariant.1),
    )
