-- Where bodies didn't end, which lane is told, and what the new calls of each lane are.
use Rattle.std.specs.Prelude.{◌≡◌, ℕ, ◌≤◌, List, [], ◌∷◌, ◌++◌, Bool, true, false, if◌then◌else◌, Option, None, Some, Result, Ok, Err}
use Rattle.pst_model.specs.ModelTree.{ModelTree}
use Rattle.pst_scen.specs.declared.scenario.Scenario.{Scenario}
use Rattle.pst_body.specs.declared.ending.BodyEnd.{BodyEnd}
use Rattle.pst_body.specs.declared.ending.BodyEnd.TheVariants.{Fault, Trap, NoMemory}
use Rattle.pst_workers.specs.declared.worker.Broken.{Broken}
use Rattle.pst_workers.specs.Told.{Told, LaneRan, LaneBroke}
use Rattle.pst_run_many.specs.declared.stop.LaneStop.{LaneStop}

abbrev pub is_out_of_memory : BodyEnd → Bool
is_out_of_memory (Fault call) = false
is_out_of_memory (Trap kind) = false
is_out_of_memory NoMemory = true

-- of the lanes so far and one more, the last one on which memory ran out, or else the first
abbrev pub earlier_of : Option LaneStop → Option Broken → ℕ → Option LaneStop
earlier_of None None lane = None
earlier_of (Some first) None lane = Some first
earlier_of None (Some broken) lane = Some (record { lane = lane; broken = broken })
earlier_of (Some first) (Some broken) lane = if is_out_of_memory broken.end then Some (record { lane = lane; broken = broken }) else Some first

-- a body on the lane that didn't end did so on no lane below the first, and not for want of memory
abbrev pub IsBehind : ℕ → ℕ → Option Broken → Type 0
IsBehind first lane None = Unit {0}
IsBehind first lane (Some broken) = (first ≤ lane) × (is_out_of_memory broken.end ≡ false)

-- How a lane stopped, by which lane is told: that one as told, and where memory ran out on none, those below it not at all.
abbrev pub Allowed : Option LaneStop → ℕ → Option Broken → Type 0
Allowed None lane stop = stop ≡ None
Allowed (Some first) lane stop = (lane ≡ first.lane → stop ≡ Some first.broken) × (is_out_of_memory first.broken.end ≡ false → IsBehind first.lane lane stop)

-- The lane's new calls are the whole runs of the actions that ended; where a body didn't end, its action alone started and hasn't
-- ended, and its calls stand behind.
abbrev pub HasCome : ModelTree → Scenario → List ℕ → List ℕ → Option Broken → Told → Told → Type 0
HasCome m s started ended None before after = LaneRan m s ended before after
HasCome m s started ended (Some broken) before after = (started ≡ ended ++ broken.action ∷ []) × LaneBroke m s ended broken before after

-- A lane on which these actions started and those ended, where that lane is told.
pub record Came (m : ModelTree) (s : Scenario) (first : Option LaneStop) (lane : ℕ) (started ended : List ℕ) (before after : Told) : Type 0 where
  pub stop : Option Broken
  pub come : HasCome m s started ended stop before after
  pub allowed : Allowed first lane stop

-- the lane that is told where a part of a run answered so
abbrev pub stop_of : {A : Type 0} → Result A LaneStop → Option LaneStop
stop_of (Ok v) = None
stop_of (Err stop) = Some stop
