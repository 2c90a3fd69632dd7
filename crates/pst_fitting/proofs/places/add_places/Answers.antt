use Rattle.std.proofs.Common.{arith}
use Rattle.pst_fitting.proofs.PlaceLemmas.{none_added, added_then, all_added}
use Rattle.pst_fitting.proofs.places.add_places.Goals as goal

pub loop-place-init : goal.loop-place-init
loop-place-init c = none_added c.args.places.now c.args.below c.args.reasons.now.items

pub loop-place-preserved : goal.loop-place-preserved
loop-place-preserved c = added_then c.args.places.now c.loop-place.place-index c.args.below c.args.reasons.now.items c.loop-place.reasons.items c.add_place.new.reasons.items (omega arith) c.loop-place.invariant c.in_ok-add_place.ensures

pub returns : goal.returns
returns c = all_added c.args.places.now c.loop-place.place-index c.args.below c.args.reasons.now.items c.loop-place.reasons.items (omega arith) c.loop-place.invariant
