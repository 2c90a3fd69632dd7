-- The invariant of values that are given.
use Rattle.std.specs.Prelude.{◌≡◌, ℕ, ◌<◌, ◌+◌, ℤ, List, length, map, take, Bool, true, false, Option, Some, None, Result, Ok, Err, Contains}
use Rattle.std.specs.Global.{Vec}
use Rattle.pst_expr.specs.Tree.{view}
use Rattle.pst_reasons.specs.declared.reasons.Narrowed.{Narrowed}
use Rattle.pst_base.specs.declared.memory.NoMemory.{NoMemory}
use Rattle.pst_reasons.specs.Giving.{IsKept, IsAt, start_of, given_too}
use Rattle.pst_reasons.specs.Reasons.{AreReasons}
use Rattle.pst_value_search.specs.declared.valued.Valued.TheInside.{Inside}
use Rattle.pst_value_search.specs.Values.{Kept, point, points}

abbrev pub kept_by : Inside → Kept
kept_by w = record { constraints = w.narrowed.constraints.items; bounds = start_of w.narrowed; values = w.values.items }

-- the value behind those that were given is refused
pub record IsRefused (n : Narrowed) (values : List ℤ) (places : List ℕ) : Type 0 where
  pub fewer : length n.given.items < length values
  pub given_is : n.given.items ≡ points (take (length n.given.items) values)
  pub reasons : AreReasons (map view n.constraints.items) (points (take (length n.given.items + 1) values)) (start_of n) places
  pub within : (i : ℕ) → Contains places i → i < length n.given.items + 1

-- all values were given, or the next one is refused
abbrev pub AreGiven : Option (Vec ℕ) → Narrowed → List ℤ → Type 0
AreGiven None n values = n.given.items ≡ points values
AreGiven (Some places) n values = IsRefused n values places.items

pub record IsValued (w : Inside) : Type 0 where
  pub kept : IsKept w.narrowed
  pub values : AreGiven w.refused w.narrowed w.values.items

-- it fits; or it isn't given, and on these of the values with it that rests
abbrev pub GivesValue : Result (Option (Vec ℕ)) NoMemory → Narrowed → Narrowed → ℕ → ℤ → Type 0
GivesValue (Ok None) old new number value = IsAt old new (given_too old number (point value))
GivesValue (Ok (Some places)) old new number value =
    IsAt old new old.given.items × AreReasons (map view old.constraints.items) (given_too old number (point value)) (start_of old) places.items × ((i : ℕ) → Contains places.items i → i < number + 1)
GivesValue (Err e) old new number value = IsAt old new old.given.items

abbrev pub IsThere : Option (Vec ℕ) → Bool → Type 0
IsThere places true = (found : Vec ℕ) × (places ≡ Some found)
IsThere places false = places ≡ None
