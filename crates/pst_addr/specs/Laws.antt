-- The laws of places.
use Rattle.std.specs.Prelude.{◌≡◌, ℕ, List, length, get_or, ◌<◌, ◌≤◌, Some, slice_get}
use Rattle.pst_model.specs.ModelTree.{ModelTree}
use Rattle.pst_scen.specs.declared.scenario.Scenario.{Scenario}
use Rattle.pst_scen.specs.declared.event.Event.{Event}
use Rattle.pst_scen.specs.Trace.{Runs, Prefix}
use Rattle.pst_scen.specs.Plan.{Entries}
use Rattle.pst_scen.specs.Plans.{IsPlanOf}
use Rattle.pst_addr.specs.declared.ask.Ask.{Ask}
use Rattle.pst_addr.specs.declared.ask.Space.{Space}
use Rattle.pst_addr.specs.Places.{Meet, AreApart, ArePlaced, HasNoRoom, AreAsks}
use Rattle.pst_addr.specs.Asks.{asks_of}

-- The bytes of two asks that meet have none in common.
abbrev pub PlacedAreApart : Type 0
PlacedAreApart =
    (p : Entries) (space : Space) (asks : List Ask) (places : List ℕ) (j k : ℕ) (one other : Ask)
    → ArePlaced p space asks places → j < k → slice_get asks j ≡ Some one → slice_get asks k ≡ Some other → Meet p other.action one.action
    → AreApart (get_or places k 0) other.size (get_or places j 0) one.size

-- At most one list has the places of the asks.
abbrev pub PlacesAreOne : Type 0
PlacesAreOne =
    (p : Entries) (space : Space) (asks : List Ask) (one other : List ℕ) → ArePlaced p space asks one → ArePlaced p space asks other → one ≡ other

-- Where all asks have a place, none is without.
abbrev pub PlacedOrNot : Type 0
PlacedOrNot = (p : Entries) (space : Space) (asks : List Ask) (places : List ℕ) (number : ℕ) → ArePlaced p space asks places → HasNoRoom p space asks number → ⊥

-- At most one ask is the first without a place.
abbrev pub NoRoomIsOne : Type 0
NoRoomIsOne = (p : Entries) (space : Space) (asks : List Ask) (one other : ℕ) → HasNoRoom p space asks one → HasNoRoom p space asks other → one ≡ other

-- Two actions that run at one moment of a whole legal trace meet.
abbrev pub RunningActionsMeet : Type 0
RunningActionsMeet =
    (s : Scenario) (p : Entries) (lanes : ℕ) (trace : List Event) (one other : ℕ)
    → IsPlanOf s p → Prefix s lanes trace → one < length s.actions → other < length s.actions → Runs trace one → Runs trace other → Meet p one other

-- What a scenario's actions ask for is asked by actions of its plan, for at least one byte and an alignment, and by each at most once.
abbrev pub AsksAreOfPlan : Type 0
AsksAreOfPlan =
    (names : List (List ℕ)) (m : ModelTree) (s : Scenario) (p : Entries)
    → length p.groups ≡ length s.actions → AreAsks p (asks_of names m s) × (length (asks_of names m s) ≤ length s.actions)
