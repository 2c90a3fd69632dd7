-- How a run on several lanes ended.
use Rattle.std.specs.Prelude.{◌≡◌, ℕ, ◌+◌, ◌<◌, ◌≤◌, ℤ, List, [], ◌∷◌, ◌++◌, length, Some, Result, Ok, Err}
use Rattle.pst_base.specs.Fault.{HasRisen}
use Rattle.pst_target.specs.declared.call.Call.{Call as Answered}
use Rattle.pst_model.specs.ModelTree.{ModelTree}
use Rattle.pst_scen.specs.declared.event.Event.{Event}
use Rattle.pst_scen.specs.declared.scenario.Scenario.{Scenario}
use Rattle.pst_scen.specs.Plan.{Entries, widest}
use Rattle.pst_scen.specs.Core.{Core, commands_of}
use Rattle.pst_scen.specs.Trace.{IsWhole, Prefix}
use Rattle.pst_legal.specs.Body.{BodyRun, Trap, Wants}
use Rattle.pst_legal.specs.Runs.{AreRunsUpTo}
use Rattle.pst_book.specs.Books.{View}
use Rattle.pst_lanes.specs.Lanes.{starts_on, ends_on, IsRunning}
use Rattle.pst_body.specs.Doing.{with_calls}
use Rattle.pst_exec.specs.declared.ending.RunEnd.{RunEnd}
use Rattle.pst_exec.specs.declared.ending.RunEnd.TheVariants.{Narrow, TargetFault, BodyTrap, NoMemory}
use Rattle.pst_workers.specs.Told.{Told, lane_at, LaneRan}

-- ---- the book

-- a book of the scenario and its plan on so many lanes; the core made its trace, which begins a whole legal trace
pub record IsBookOn (s : Scenario) (plan : Entries) (count : ℕ) (book : View) : Type 0 where
  pub scenario : book.scenario ≡ s
  pub planned : book.plan ≡ plan
  pub lanes : book.lanes ≡ count
  pub core : Core s count (commands_of book.trace) book.trace
  pub prefix : Prefix s count book.trace

-- the action runs in the trace on the lane: all that started there before it has ended
pub record RunsOn (trace : List Event) (lane action : ℕ) : Type 0 where
  pub starts : starts_on lane trace ≡ ends_on lane trace ++ action ∷ []
  pub running : IsRunning trace lane (Some action)

-- ---- a lane

-- The lane's new calls are the whole runs of these actions, in this order, and then those of one more, whose body came to that.
pub record LaneRanUpTo (m : ModelTree) (s : Scenario) (actions : List ℕ) (action : ℕ) (to : BodyRun) (before after : Told) : Type 0 where
  pub made : List Answered
  pub calls : after.calls ≡ with_calls before.calls made
  pub runs : AreRunsUpTo m s actions action to made

-- and the body wants the call of that number, counted from 1 among its own, at which the lane failed
pub record LaneFailed (m : ModelTree) (s : Scenario) (actions : List ℕ) (action call : ℕ) (before after : Told) : Type 0 where
  pub function : ℕ
  pub arguments : List ℤ
  pub ran : LaneRanUpTo m s actions action (Wants function arguments) before after
  pub number : call ≡ length ran.runs.part + 1
  pub faults : HasRisen before.faults after.faults

-- or it trapped
pub record LaneTrapped (m : ModelTree) (s : Scenario) (actions : List ℕ) (action kind : ℕ) (before after : Told) : Type 0 where
  pub ran : LaneRanUpTo m s actions action (Trap kind) before after
  pub faults : after.faults ≡ before.faults

-- A lane of a run that stopped with this trace: its new calls are the whole runs of the actions that ended there, in order; and where the body of the
-- action that runs there broke, the calls of that one stand behind.
pub data LaneStopped (m : ModelTree) (s : Scenario) (trace : List Event) (lane : ℕ) (before after : Told) : Type 0 where
  HasRan : LaneRan m s (ends_on lane trace) before after → LaneStopped m s trace lane before after
  HasFailed : (action call : ℕ) → RunsOn trace lane action → LaneFailed m s (ends_on lane trace) action call before after → LaneStopped m s trace lane before after
  HasTrapped : (action kind : ℕ) → RunsOn trace lane action → LaneTrapped m s (ends_on lane trace) action kind before after → LaneStopped m s trace lane before after

-- ---- a run

-- Every action ran, and the new calls of each lane are the whole runs of the actions that started there, in that order.
pub record RanWholeOn (m : ModelTree) (s : Scenario) (plan : Entries) (count : ℕ) (before after : List Told) (book : View) : Type 0 where
  pub is_of : IsBookOn s plan count book
  pub whole : IsWhole s book.trace
  pub lanes : (k : ℕ) → k < count → LaneRan m s (starts_on k book.trace) (lane_at before k) (lane_at after k)

-- The run stopped, and that action runs on that lane, the least one on which a body broke.
pub record StoppedOn (m : ModelTree) (s : Scenario) (plan : Entries) (count : ℕ) (before after : List Told) (lane action : ℕ) (book : View) : Type 0 where
  pub is_of : IsBookOn s plan count book
  pub inside : lane < count
  pub runs : RunsOn book.trace lane action
  pub below : (k : ℕ) → k < lane → LaneRan m s (ends_on k book.trace) (lane_at before k) (lane_at after k)
  pub lanes : (k : ℕ) → k < count → LaneStopped m s book.trace k (lane_at before k) (lane_at after k)

-- the calls that were made stay, and no count of faults fell
pub record KeptCalls (before after : Told) : Type 0 where
  pub made : List Answered
  pub calls : after.calls ≡ with_calls before.calls made
  pub faults : before.faults ≤ after.faults

-- A run of the scenario by its plan on so many lanes ended so: what the lanes told before, and what they tell now.
abbrev pub RunsMany : ModelTree → Scenario → Entries → ℕ → List Told → List Told → Result View RunEnd → Type 0
RunsMany m s plan count before after (Ok book) = RanWholeOn m s plan count before after book
RunsMany m s plan count before after (Err (Narrow need have)) = (need ≡ widest plan.groups) × (have ≡ count) × (after ≡ before)
RunsMany m s plan count before after (Err (TargetFault lane action call book)) =
    StoppedOn m s plan count before after lane action book × LaneFailed m s (ends_on lane book.trace) action call (lane_at before lane) (lane_at after lane)
RunsMany m s plan count before after (Err (BodyTrap lane action kind book)) =
    StoppedOn m s plan count before after lane action book × LaneTrapped m s (ends_on lane book.trace) action kind (lane_at before lane) (lane_at after lane)
RunsMany m s plan count before after (Err NoMemory) = (k : ℕ) → k < count → KeptCalls (lane_at before k) (lane_at after k)
