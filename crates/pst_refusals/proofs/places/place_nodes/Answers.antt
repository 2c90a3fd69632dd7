use Rattle.std.proofs.Common.{◌∙◌, arith}
use Rattle.pst_refusals.proofs.Counting.{none_counted, with_place, all_placed}
use Rattle.pst_refusals.proofs.places.place_nodes.Goals as goal

pub loop-n-init : goal.loop-n-init
loop-n-init c = record {
  counted = none_counted c.args.nodes.now c.args.counts.now.items c.args.count c.requires.none c.requires.all;
  many = c.requires.many ∙ c.requires.all;
  each = λ k l. absurd (omega (arith, l));
}

pub count_node-place-requires-clause-room : goal.count_node-place-requires-clause-room
count_node-place-requires-clause-room c =
    let test = c.loop-n-test.true in
    let fits = c.ranges.count.fits in
    omega (arith, test, fits)

pub loop-n-preserved : goal.loop-n-preserved
loop-n-preserved c =
    let i = c.loop-n.invariant in
    record {
      counted = c.count_node-place.ensures.counted;
      many = c.put.ensures.many ∙ i.many;
      each = with_place c.args.nodes.now c.loop-n.places.items c.put.new.places.items c.loop-n.n c.count_node-place.result c.count_node-place.ensures.place c.put.ensures.here c.put.ensures.others i.each;
    }

pub returns : goal.returns
returns c =
    let i = c.loop-n.invariant in
    let past = c.loop-n-test.false in
    let all = c.requires.all in
    all_placed c.args.nodes.now c.loop-n.places.items i.many (λ k l. i.each k (omega (arith, l, past, all)))
