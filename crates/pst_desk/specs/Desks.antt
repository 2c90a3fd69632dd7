-- What contracts see of a desk, and what its type keeps of each lane.
use Rattle.std.specs.Prelude.{◌≡◌, ℕ, ◌<◌, List, Bool, slice_set}
use Rattle.atomic_table.specs.Seated.{TableId}
use Rattle.pst_scen.specs.declared.event.Event.{Event}
use Rattle.pst_scen.specs.declared.scenario.Scenario.{Scenario}
use Rattle.pst_scen.specs.Plan.{Entries}
use Rattle.pst_post.specs.declared.view.Entry.{Entry}
use Rattle.pst_post.specs.Views.{entry_at}
use Rattle.pst_post.specs.Seats.{BookState}
use Rattle.pst_book.specs.Books.{View}
use Rattle.pst_lanes.specs.Lanes.{starts_on, ends_on}

-- a desk is seen as the trace of its book, the entries of its seat, and whether it is stopped
pub record DeskView : Type 0 where
  pub trace : List Event
  pub entries : List Entry
  pub stopped : Bool

-- the same desk with other entries
abbrev pub with_entries : DeskView → List Entry → DeskView
with_entries desk entries = record { trace = desk.trace; entries = entries; stopped = desk.stopped }

-- the same entries, with that of the lane changed so
abbrev pub entries_changed : List Entry → ℕ → (Entry → Entry) → List Entry
entries_changed entries lane change = slice_set entries lane (change (entry_at entries lane))

-- the book of the scenario, plan and number of lanes with this trace
abbrev pub book_of : Scenario → Entries → ℕ → List Event → View
book_of s plan lanes trace = record { scenario = s; plan = plan; lanes = lanes; trace = trace }

-- the book's seat at the table, with these entries
abbrev pub seat_of : TableId → List Entry → BookState
seat_of table entries = record { table = table; entries = entries }

-- what was posted to the lane are the actions that start there, and what ended of it those that end there
pub record IsTied (trace : List Event) (lane : ℕ) (e : Entry) : Type 0 where
  pub posted : e.posted ≡ starts_on lane trace
  pub ended : e.ended ≡ ends_on lane trace

abbrev pub AreTied : ℕ → List Event → List Entry → Type 0
AreTied lanes trace entries = (lane : ℕ) → lane < lanes → IsTied trace lane (entry_at entries lane)
