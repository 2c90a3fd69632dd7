use Rattle.std.proofs.Common.{◌≡◌, ◌++◌, drop, nat_lt}
use Rattle.std.specs.Prelude.{filter}
use Rattle.pst_value_search.proofs.valued.places_below.Given as goal

abbrev pub invariant-loop-place : goal.invariant-loop-place
invariant-loop-place l = l.kept.items ++ filter (λ i. nat_lt i l.count) (drop l.place-index l.places) ≡ filter (λ i. nat_lt i l.count) l.places
