use Rattle.std.proofs.Common.{◌≡◌, ◌++◌, drop, map}
use Rattle.pst_sites.proofs.find.places_of_functions.Given as goal

abbrev pub invariant-loop-function : goal.invariant-loop-function
invariant-loop-function l = l.places.items ++ map (λ f. f.now.name.place) (drop l.function-index l.functions) ≡ map (λ f. f.now.name.place) l.functions
