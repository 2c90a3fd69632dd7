use Rattle.std.proofs.Common.{◌≡◌, ◌+◌, ◌++◌, drop, map}
use Rattle.pst_search_places.proofs.places.add_places.Given as goal

abbrev pub invariant-loop-place : goal.invariant-loop-place
invariant-loop-place l = l.named.items ++ map (λ i. l.front + i) (drop l.place-index l.places) ≡ l.initial.named.items ++ map (λ i. l.front + i) l.places
