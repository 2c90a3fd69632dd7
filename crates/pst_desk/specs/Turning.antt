-- What a turn of a desk makes of it.
use Rattle.std.specs.Prelude.{◌≡◌, ◌↔◌, ℕ, ◌+◌, ◌<◌, List, ◌++◌, length, Bool, true, false, slice_index_or, IsTrue}
use Rattle.std.specs.List.{sum_by}
use Rattle.pst_scen.specs.declared.event.Event.{Event}
use Rattle.pst_scen.specs.declared.scenario.Scenario.{Scenario}
use Rattle.pst_scen.specs.Trace.{IsHeld, starts_of}
use Rattle.pst_scen.specs.Core.{Opens}
use Rattle.pst_post.specs.declared.view.Entry.{Entry}
use Rattle.pst_post.specs.Views.{entry_at}
use Rattle.pst_lanes.specs.Lanes.{starts_on, ends_on}

-- so many groups start one after another, each the least startable one, on the least idle lanes
pub data OpensGroups (s : Scenario) (lanes : ℕ) (before : List Event) : ℕ → List Event → Type 0 where
  NoGroup : OpensGroups s lanes before 0 before
  OneMore : (count : ℕ) (middle : List Event) (members used : List ℕ) → OpensGroups s lanes before count middle → Opens s lanes middle members used → OpensGroups s lanes before (count + 1) (middle ++ starts_of members used)

-- the entry with these posted actions
abbrev pub with_posted : List ℕ → Entry → Entry
with_posted acts e = record e { posted = acts }

-- to each lane was posted what starts there, and nothing else of its entry changed
abbrev pub ArePosted : ℕ → List Event → List Entry → List Entry → Type 0
ArePosted lanes trace old new = (lane : ℕ) → lane < lanes → entry_at new lane ≡ with_posted (starts_on lane trace) (entry_at old lane)

-- how many actions were posted, to all lanes together
abbrev pub posted_total : List Entry → ℕ
posted_total entries = sum_by (λ (e : Entry). length e.posted) entries

-- the lanes below the number that running actions hold
abbrev pub AreHeld : ℕ → List Event → List Bool → Type 0
AreHeld lanes trace held = (lane : ℕ) → lane < lanes → IsTrue (slice_index_or held lane false) ↔ IsHeld trace lane

-- What is posted to a lane before a turn's posts: on a lane that was held, all that starts there; on an idle one, what ends there, and all of it was collected.
abbrev pub IsDue : List Event → ℕ → Entry → Bool → Type 0
IsDue trace lane e true = e.posted ≡ starts_on lane trace
IsDue trace lane e false = (e.posted ≡ ends_on lane trace) × (e.posted ≡ e.ended)
