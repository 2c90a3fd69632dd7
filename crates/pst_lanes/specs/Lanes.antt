-- What a trace says of one lane.
use Rattle.std.specs.Prelude.{ℕ, List, [], ◌∷◌, ◌++◌, Bool, true, false, nat_eq, Option, MatchOption}
use Rattle.std.specs.List.{list_any}
use Rattle.pst_scen.specs.declared.event.Event.{Event}
use Rattle.pst_scen.specs.declared.event.Event.TheVariants.{Start, End}
use Rattle.pst_scen.specs.Trace.{StartsOn, Ended, IsHeld}

-- the number as a list, where the test holds
abbrev pub only_if : Bool → ℕ → List ℕ
only_if true a = a ∷ []
only_if false a = []

-- the actions that start on the lane, in order
abbrev pub starts_on : ℕ → List Event → List ℕ
starts_on lane [] = []
starts_on lane (Start a l more ∷ es) = only_if (nat_eq l lane) a ++ starts_on lane es
starts_on lane (End a ∷ es) = starts_on lane es

-- those of the actions that end, in the order of their ends
abbrev pub ends_among : List ℕ → List Event → List ℕ
ends_among acts [] = []
ends_among acts (Start a l more ∷ es) = ends_among acts es
ends_among acts (End a ∷ es) = only_if (list_any (nat_eq a) acts) a ++ ends_among acts es

-- the actions that end on the lane, which is where they started, in order
abbrev pub ends_on : ℕ → List Event → List ℕ
ends_on lane trace = ends_among (starts_on lane trace) trace

-- whether the event is a start of the action
abbrev pub is_start : ℕ → Event → Bool
is_start a (Start b lane more) = nat_eq b a
is_start a (End b) = false

-- the action that runs on the lane, or that none does
abbrev pub IsRunning : List Event → ℕ → Option ℕ → Type 0
IsRunning trace lane o = MatchOption o (IsHeld trace lane → ⊥) (λ a. StartsOn trace a lane × (Ended trace a → ⊥))
