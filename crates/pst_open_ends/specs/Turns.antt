-- Whose turn it is, by the binds of the activities.
use Rattle.std.specs.Prelude.{◌≡◌, ℕ, ◌<◌, ◌≤◌, List, Bool, false, ◌&&◌, ◌||◌, Option, Some, None, slice_get}
use Rattle.std.specs.List.{find, list_any}
use Rattle.std.specs.Option.{option_map}
use Rattle.pst_scen.specs.declared.act.Act.{Act}
use Rattle.pst_legal.specs.Binds.{Bound, fixed_source}
use Rattle.pst_legal.specs.Supplied.{is_need}
use Rattle.pst_legal.specs.SupplyReading.{Spot, spots_in, is_open, is_elsewhere}
use Rattle.pst_open_ends.specs.declared.spot.Spot.{Spot as Spot-kept}

abbrev pub turns : List Bound → Spot → Bool
turns bounds spot = is_need spot.filled.flow && (is_open spot || is_elsewhere (fixed_source bounds spot.act spot.reference spot.filled.flow) spot)

-- no reference of an action below that number has a turn
abbrev pub AreDone : List Bound → List Act → ℕ → Type 0
AreDone bounds acts number = (k : ℕ) (act : Act) → k < number → slice_get acts k ≡ Some act → find (turns bounds) (spots_in (k, act)) ≡ None

-- no reference of an action before that of the need has a turn
abbrev pub IsDoneBefore : List Bound → List Act → Option Spot-kept → Type 0
IsDoneBefore bounds acts None = Unit {0}
IsDoneBefore bounds acts (Some need) = AreDone bounds acts need.act

-- ---- actions without a turn

-- the action has a reference that wants a source
abbrev pub wants : Act → Bool
wants act = list_any (λ f. is_need f.flow) act.references

-- no action from one number on and below another has such a reference
abbrev pub NoneWants : List Act → ℕ → ℕ → Type 0
NoneWants acts from to = (k : ℕ) → from ≤ k → k < to → option_map wants (slice_get acts k) ≡ Some false

-- for each of the first actions one, from it on, before which none has such a reference
abbrev pub AreNexts : List ℕ → List Act → Type 0
AreNexts nexts acts = (number to : ℕ) → slice_get nexts number ≡ Some to → (number ≤ to) × NoneWants acts number to
