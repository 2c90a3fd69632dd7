use Rattle.std.proofs.Common.{take}
use Rattle.pst_fitting.specs.Places.{AreAdded}
use Rattle.pst_fitting.proofs.places.add_places.Given as goal

abbrev pub invariant-loop-place : goal.invariant-loop-place
invariant-loop-place l = AreAdded (take l.place-index l.places) l.below l.initial.reasons.items l.reasons.items
