-- How a list of places is kept.
use Rattle.std.specs.Prelude.{◌≡◌}
use Rattle.std.specs.HashMap.{get}
use Rattle.pst_places.specs.Numbers.{number_from, place_of, same_key}
use Rattle.pst_places.specs.declared.key.PlaceKey.{PlaceKey}
use Rattle.pst_places.specs.declared.list.PlaceList.TheInside.{Inside}

-- each key has the number of the first place that has it
pub record IsPlaceList (list : Inside) : Type 0 where
  pub numbers : (q : PlaceKey) → get same_key list.numbers q ≡ number_from 0 list.places.items (place_of q)
