use Rattle.std.proofs.Common.{arith}
use Rattle.pst_narrow.proofs.NotedLemmas.{item_in, item_is, for_none, for_more, for_all}
use Rattle.pst_narrow.proofs.watch.add_to_rows.Goals as goal

pub add_to_row-requires : goal.add_to_row-requires
add_to_row-requires c =
    let long = c.loop-place.invariant.long in
    let small = c.requires _ (item_in c.args.places.now c.loop-place.place-index c.loop-place-test.true) in
    omega arith

pub loop-place-init : goal.loop-place-init
loop-place-init c = for_none c.args.places.now c.args.number c.args.rows.now

pub loop-place-preserved : goal.loop-place-preserved
loop-place-preserved c = for_more c.loop-place.place-index c.args.places.now _ c.args.number c.args.rows.now c.loop-place.rows c.add_to_row.new.rows c.loop-place-test.true (item_is c.args.places.now c.loop-place.place-index c.loop-place-test.true) c.loop-place.invariant c.in_ok-add_to_row.ensures

pub returns : goal.returns
returns c = for_all c.loop-place.place-index c.args.places.now c.args.number c.args.rows.now c.loop-place.rows c.loop-place-test.false (omega arith) c.loop-place.invariant
