-- The numbers of places in a list.
use Rattle.std.specs.Prelude.{◌≡◌, ℕ, suc, Bool, nat_eq, ◌&&◌, List, [], ◌∷◌, Option, Some, None, if◌then◌else◌}
use Rattle.std.specs.Option.{option_or}
use Rattle.std.specs.HashMap.{HashMap, get}
use Rattle.pst_base.specs.declared.position.Place.{Place}
use Rattle.pst_ast.specs.Sorts.{same_place}
use Rattle.pst_places.specs.declared.key.PlaceKey.{PlaceKey}

-- the number of the first place that is that one, where the list begins with that number
abbrev pub number_from : ℕ → List Place → Place → Option ℕ
number_from n [] place = None
number_from n (p ∷ more) place = if same_place p place then Some n else number_from (suc n) more place

-- counted from 0
unfoldable pub number_in : List Place → Place → Option ℕ
number_in places place = number_from 0 places place

-- ---- keys

abbrev pub place_key : Place → PlaceKey
place_key place = record { file = place.file; line = place.line; column = place.column }

abbrev pub place_of : PlaceKey → Place
place_of key = record { file = key.file; line = key.line; column = key.column }

-- whether two keys are one
abbrev pub same_key : PlaceKey → PlaceKey → Bool
same_key a b = nat_eq a.file b.file && (nat_eq a.line b.line && nat_eq a.column b.column)

-- what was found, or else the number, where it is found too
abbrev pub or_number : Option ℕ → Bool → ℕ → Option ℕ
or_number found next number = option_or found (if next then Some number else None)
