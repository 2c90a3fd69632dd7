use Rattle.std.proofs.Common.{◌≡◌, ◌++◌, drop, map}
use Rattle.pst_evaluate.proofs.items.places_of.Given as goal

abbrev pub invariant-loop-item : goal.invariant-loop-item
invariant-loop-item l = l.places.items ++ map (λ i. i.name.place) (drop l.item-index l.items) ≡ map (λ i. i.name.place) l.items
