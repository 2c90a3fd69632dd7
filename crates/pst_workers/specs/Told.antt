-- What lanes tell, and what bodies that run on a lane make of it.
use Rattle.std.specs.Prelude.{◌≡◌, ℕ, List, map, Option, None, Err, slice_index_or}
use Rattle.pst_target.specs.declared.call.Call.{Call as Answered}
use Rattle.pst_model.specs.ModelTree.{ModelTree}
use Rattle.pst_scen.specs.declared.scenario.Scenario.{Scenario}
use Rattle.pst_legal.specs.Body.{body_run}
use Rattle.pst_legal.specs.Runs.{AreRuns}
use Rattle.pst_body.specs.Doing.{with_calls}
use Rattle.pst_body.specs.Ran.{Ran}
use Rattle.pst_workers.specs.declared.worker.Broken.{Broken}

-- what a lane tells: its calls, where it tells them, and its count of faults
pub record Told : Type 0 where
  pub calls : Option (List Answered)
  pub faults : ℕ

abbrev pub told : {T : Type 0} → (T → Option (List Answered)) → (T → ℕ) → T → Told
told calls faults lane = record { calls = calls lane; faults = faults lane }

-- what each of several lanes tells
abbrev pub told_of : {T : Type 0} → (T → Option (List Answered)) → (T → ℕ) → List T → List Told
told_of calls faults lanes = map (λ lane. told calls faults lane) lanes

-- what the lane of that number tells
abbrev pub lane_at : List Told → ℕ → Told
lane_at lanes k = slice_index_or lanes k (record { calls = None; faults = 0 })

-- The lane's new calls are the whole runs of these actions' bodies, in this order, and its count of faults is as it was.
pub record LaneRan (m : ModelTree) (s : Scenario) (actions : List ℕ) (before after : Told) : Type 0 where
  pub made : List Answered
  pub calls : after.calls ≡ with_calls before.calls made
  pub runs : AreRuns m s actions made
  pub faults : after.faults ≡ before.faults

-- Behind them the body of one more action made calls, and didn't end.
pub record LaneBroke (m : ModelTree) (s : Scenario) (actions : List ℕ) (broken : Broken) (before after : Told) : Type 0 where
  pub between : Told
  pub ran : LaneRan m s actions before between
  pub broke : Ran {A = Unit {0}} (body_run m s broken.action) between.calls after.calls between.faults after.faults (Err broken.end)
