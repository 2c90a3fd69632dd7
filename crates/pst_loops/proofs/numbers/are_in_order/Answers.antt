use Rattle.std.proofs.Common.{◌-◌, arith, get_or}
use Rattle.std.proofs.lemmas.Option.{slice_get-get_or}
use Rattle.pst_loops.proofs.OneMore.{blank}
use Rattle.pst_loops.proofs.Order.{in_order_on, one_in_order, all_in_order}
use Rattle.pst_loops.proofs.numbers.are_in_order.Goals as goal

pub loop-at-init : goal.loop-at-init
loop-at-init c = record { some = omega arith; order = one_in_order c.args.declarations.now }

pub loop-at-preserved : goal.loop-at-preserved
loop-at-preserved c =
    let ds = c.args.declarations.now in
    let n = c.loop-at.at in
    let some = c.loop-at.invariant.some in
    record {
      some = omega arith;
      order = in_order_on c.places_are_ordered.ensures.on ds (n - 1) n (get_or ds (n - 1) blank) (get_or ds n blank) (omega arith) c.loop-at.invariant.order
          (slice_get-get_or ds (n - 1) blank (omega arith)) (slice_get-get_or ds n blank (omega arith)) (c.is_before.ensures.0 c.if-not-is_before.false);
    }

pub returns : goal.returns
returns c = λ t. all_in_order c.loop-at.at c.args.declarations.now (omega arith) c.loop-at.invariant.order
