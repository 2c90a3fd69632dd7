-- The laws of the lanes of a legal trace.
use Rattle.std.specs.Prelude.{◌≡◌, ◌≤◌, ℕ, List, ◌++◌, Option}
use Rattle.std.specs.List.{count_by}
use Rattle.std.specs.Option.{option_to_list}
use Rattle.pst_scen.specs.declared.scenario.Scenario.{Scenario}
use Rattle.pst_scen.specs.declared.event.Event.{Event}
use Rattle.pst_scen.specs.Trace.{StartsOn, Started, Ended, IsLegalTrace}
use Rattle.pst_lanes.specs.Lanes.{starts_on, ends_on, is_start, IsRunning}

-- An action starts at most once,
abbrev pub StartsOnce : Type 0
StartsOnce = (s : Scenario) (lanes : ℕ) (trace : List Event) → IsLegalTrace s lanes trace → (a : ℕ) → count_by (is_start a) trace ≤ 1

-- and on one lane.
abbrev pub StartsOnOneLane : Type 0
StartsOnOneLane = (s : Scenario) (lanes : ℕ) (trace : List Event) → IsLegalTrace s lanes trace → (a l k : ℕ) → StartsOn trace a l → StartsOn trace a k → l ≡ k

-- What has ended has started.
abbrev pub EndsHaveStarted : Type 0
EndsHaveStarted = (s : Scenario) (lanes : ℕ) (trace : List Event) → IsLegalTrace s lanes trace → (a : ℕ) → Ended trace a → Started trace a

-- On each lane the starts are the ends, and then the action that runs there, if one does.
abbrev pub StartsAreEnds : Type 0
StartsAreEnds =
    (s : Scenario) (lanes : ℕ) (trace : List Event) → IsLegalTrace s lanes trace
    → (lane : ℕ) (running : Option ℕ) → IsRunning trace lane running → starts_on lane trace ≡ ends_on lane trace ++ option_to_list running

-- At most one action runs on a lane.
abbrev pub OneRunsOnLane : Type 0
OneRunsOnLane =
    (s : Scenario) (lanes : ℕ) (trace : List Event) → IsLegalTrace s lanes trace
    → (a b lane : ℕ) → StartsOn trace a lane → (Ended trace a → ⊥) → StartsOn trace b lane → (Ended trace b → ⊥) → a ≡ b
