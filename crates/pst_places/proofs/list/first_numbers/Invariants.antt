use Rattle.std.proofs.Common.{◌≡◌, drop}
use Rattle.std.specs.Option.{option_or}
use Rattle.std.specs.HashMap.{get}
use Rattle.pst_places.specs.declared.key.PlaceKey.{PlaceKey}
use Rattle.pst_places.specs.Numbers.{number_from, place_of, same_key}
use Rattle.pst_places.proofs.list.first_numbers.Given as goal

abbrev pub invariant-loop-at : goal.invariant-loop-at
invariant-loop-at l = (q : PlaceKey) → option_or (get same_key l.numbers q) (number_from l.at (drop l.at l.places) (place_of q)) ≡ number_from 0 l.places (place_of q)
