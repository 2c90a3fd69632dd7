-- What a caller that goes on alone makes of a book and of a lane.
use Rattle.std.specs.Prelude.{◌≡◌, ◌≢◌, ℕ, ◌<◌, ◌≤◌, List, [], ◌∷◌, ◌++◌, length, Result, Ok, Err}
use Rattle.pst_model.specs.ModelTree.{ModelTree}
use Rattle.pst_scen.specs.declared.scenario.Scenario.{Scenario}
use Rattle.pst_lanes.specs.Lanes.{starts_on, ends_on}
use Rattle.pst_book.specs.Books.{View, with_trace}
use Rattle.pst_workers.specs.Told.{Told, LaneRan, LaneBroke}
use Rattle.pst_run_many.specs.declared.stop.LaneStop.{LaneStop}

-- the same book with more events
pub record GoesOn (old new : View) : Type 0 where
  pub same : new ≡ with_trace old new.trace
  pub longer : length old.trace ≤ length new.trace

-- the same book with one group more started, on lanes on which it leaves what had ended
pub record HasOpened (old new : View) : Type 0 where
  pub same : new ≡ with_trace old new.trace
  pub longer : length old.trace < length new.trace
  pub ends : (k : ℕ) → ends_on k new.trace ≡ ends_on k old.trace

-- All that started on the lane has ended, on the other lanes the same starts and ends stand, and if the lane's calls were the runs of what had
-- ended, they are so still.
pub record LaneIsIdle (m : ModelTree) (s : Scenario) (lane : ℕ) (old new : View) (before after : Told) : Type 0 where
  pub goes_on : GoesOn old new
  pub starts : (k : ℕ) → starts_on k new.trace ≡ starts_on k old.trace
  pub others : (k : ℕ) → k ≢ lane → ends_on k new.trace ≡ ends_on k old.trace
  pub here : starts_on lane new.trace ≡ ends_on lane new.trace
  pub ran : (first : Told) → LaneRan m s (ends_on lane old.trace) first before → LaneRan m s (ends_on lane new.trace) first after

-- or the body of the action that runs on it didn't end
pub record LaneIsBroken (m : ModelTree) (s : Scenario) (lane : ℕ) (old new : View) (before after : Told) (stop : LaneStop) : Type 0 where
  pub same : new ≡ old
  pub lane_is : stop.lane ≡ lane
  pub runs : starts_on lane old.trace ≡ ends_on lane old.trace ++ stop.broken.action ∷ []
  pub broke : (first : Told) → LaneRan m s (ends_on lane old.trace) first before → LaneBroke m s (ends_on lane old.trace) stop.broken first after

abbrev pub FinishesLane : ModelTree → Scenario → ℕ → View → View → Told → Told → Result Unit LaneStop → Type 0
FinishesLane m s lane old new before after (Ok v) = LaneIsIdle m s lane old new before after
FinishesLane m s lane old new before after (Err stop) = LaneIsBroken m s lane old new before after stop
