-- The tables of a run, and how they stand to its trace.
use Rattle.std.specs.Prelude.{◌≡◌, ◌≢◌, ◌↔◌, ◌+◌, ◌<◌, ◌≤◌, ℕ, List, length, get_or, Bool, true, false, Option, Some, None, MatchOption, Contains}
use Rattle.pst_scen.specs.declared.rows.Rows.{Rows}
use Rattle.pst_scen.specs.declared.event.Event.{Event}
use Rattle.pst_scen.specs.Trace.{StartsOn, Started, Ended, Runs, IsHeld}
use Rattle.pst_scen.specs.Rows.{Has}
use Rattle.pst_scen.specs.Plan.{Entries}

-- a run is seen as its plan and number of lanes, its trace, and the number of events that have room
pub record RunView : Type 0 where
  pub plan : Entries
  pub lanes : ℕ
  pub trace : List Event
  pub room : ℕ

-- so many numbers have the property
pub record AreSoManyOf (P : ℕ → Type 0) (count : ℕ) : Type 0 where
  pub list : List ℕ
  pub different : (i j : ℕ) → i < j → j < length list → get_or list i 0 ≢ get_or list j 0
  pub are : (x : ℕ) → Contains list x ↔ P x
  pub many : length list ≡ count

-- b must come before a, and hasn't ended
abbrev pub IsAwaited : Entries → List Event → ℕ → ℕ → Type 0
IsAwaited p trace a b = (b < length p.groups) × Has p.must b a × (Ended trace b → ⊥)

-- b conflicts with a, and runs
abbrev pub IsInTheWay : Entries → List Event → ℕ → ℕ → Type 0
IsInTheWay p trace a b = (b < length p.groups) × Has p.conflict b a × Runs trace b

-- a hasn't ended
abbrev pub IsLeft : Entries → List Event → ℕ → Type 0
IsLeft p trace a = (a < length p.groups) × (Ended trace a → ⊥)

-- a is the one running action that holds the lane
pub record HoldsAlone (trace : List Event) (lane a : ℕ) : Type 0 where
  pub starts : StartsOn trace a lane
  pub running : Ended trace a → ⊥
  pub alone : (b : ℕ) → StartsOn trace b lane → (Ended trace b → ⊥) → b ≡ a

-- the next action of the same group, or the number of actions
pub record IsNext (groups : List ℕ) (a next : ℕ) : Type 0 where
  pub behind : a < next
  pub inside : next ≤ length groups
  pub none_between : (b : ℕ) → a < b → b < next → get_or groups b 0 ≡ get_or groups a 0 → ⊥
  pub same : next < length groups → get_or groups next 0 ≡ get_or groups a 0

pub record AreNext (groups next : List ℕ) : Type 0 where
  pub many : length next ≡ length groups
  pub each : (a : ℕ) → a < length groups → IsNext groups a (get_or next a 0)

-- how many must come before each
pub record AreAllAwaited (p : Entries) (awaited : List ℕ) : Type 0 where
  pub many : length awaited ≡ length p.groups
  pub each : (a : ℕ) → a < length p.groups → AreSoManyOf (λ b. (b < length p.groups) × Has p.must b a) (get_or awaited a 0)

-- what a trace shows of actions and lanes that there are
pub record IsInside (p : Entries) (lanes : ℕ) (trace : List Event) : Type 0 where
  pub acts : (a : ℕ) → Started trace a → a < length p.groups
  pub on_lanes : (a l : ℕ) → StartsOn trace a l → l < lanes
  pub begun : (a : ℕ) → Ended trace a → Started trace a

-- Each table says of the trace what its name says.
pub record AreTied (p : Entries) (lanes : ℕ) (trace : List Event) (started ended : List Bool) (awaited in_the_way next : List ℕ) (holders : List (Option ℕ)) (first left : ℕ) : Type 0 where
  pub many_started : length started ≡ length p.groups
  pub many_ended : length ended ≡ length p.groups
  pub many_awaited : length awaited ≡ length p.groups
  pub many_in_the_way : length in_the_way ≡ length p.groups
  pub many_next : length next ≡ length p.groups
  pub many_holders : length holders ≡ lanes
  pub inside : IsInside p lanes trace
  pub started_is : (a : ℕ) → a < length p.groups → (get_or started a false ≡ true) ↔ Started trace a
  pub ended_is : (a : ℕ) → a < length p.groups → (get_or ended a false ≡ true) ↔ Ended trace a
  pub awaited_is : (a : ℕ) → a < length p.groups → AreSoManyOf (IsAwaited p trace a) (get_or awaited a 0)
  pub in_the_way_is : (a : ℕ) → a < length p.groups → AreSoManyOf (IsInTheWay p trace a) (get_or in_the_way a 0)
  pub next_is : (a : ℕ) → a < length p.groups → IsNext p.groups a (get_or next a 0)
  pub holders_are : (l : ℕ) → l < lanes → MatchOption (get_or holders l None) (IsHeld trace l → ⊥) (λ a. HoldsAlone trace l a)
  pub first_is : (a : ℕ) → a < first → Started trace a
  pub first_in : first ≤ length p.groups
  pub left_is : AreSoManyOf (IsLeft p trace) left

-- each number that is paired with a is one greater
pub record AreRaised (rows : Rows) (a : ℕ) (old new : List ℕ) : Type 0 where
  pub many : length new ≡ length old
  pub raised : (m : ℕ) → m < length old → Has rows a m → get_or new m 0 ≡ get_or old m 0 + 1
  pub same : (m : ℕ) → m < length old → (Has rows a m → ⊥) → get_or new m 0 ≡ get_or old m 0

-- and one less
pub record AreLowered (rows : Rows) (a : ℕ) (old new : List ℕ) : Type 0 where
  pub many : length new ≡ length old
  pub lowered : (m : ℕ) → m < length old → Has rows a m → get_or new m 0 + 1 ≡ get_or old m 0
  pub same : (m : ℕ) → m < length old → (Has rows a m → ⊥) → get_or new m 0 ≡ get_or old m 0

-- the lanes that the action held are free, and the others as before
pub record AreFreed (a : ℕ) (old new : List (Option ℕ)) : Type 0 where
  pub many : length new ≡ length old
  pub freed : (l : ℕ) → l < length old → get_or old l None ≡ Some a → get_or new l None ≡ None
  pub same : (l : ℕ) → l < length old → get_or old l None ≢ Some a → get_or new l None ≡ get_or old l None
