use Rattle.std.proofs.Common.{◌≡◌, ◌++◌, drop, map}
use Rattle.pst_sources.proofs.lookup.places_of_constants.Given as goal

abbrev pub invariant-loop-constant : goal.invariant-loop-constant
invariant-loop-constant l = l.places.items ++ map (λ c. c.at) (drop l.constant-index l.constants) ≡ map (λ c. c.at) l.constants
