-- How many calls bodies make, and by which kinds they trap.
use Rattle.std.specs.Prelude.{◌≡◌, ℕ, ◌<◌, ◌≤◌, List, length, Some}
use Rattle.pst_target.specs.declared.call.Call.{Call}
use Rattle.pst_model.specs.ModelTree.{ModelTree}
use Rattle.pst_scen.specs.declared.scenario.Scenario.{Scenario}
use Rattle.pst_legal.specs.Body.{BodyRun, Ended, Trap, Wants, body_run, most_counts}

-- what a body comes to behind so many calls: each is one of a statement that has begun, and a trap is of kind 1 to 3
abbrev pub IsShort : ℕ → BodyRun → Type 0
IsShort count Ended = count ≤ most_counts
IsShort count (Trap kind) = (count ≤ most_counts) × (1 ≤ kind) × (kind ≤ 3)
IsShort count (Wants function arguments) = count < most_counts

-- Every run of a body is as short.
abbrev pub BodiesAreShort : Type 0
BodiesAreShort = (m : ModelTree) (s : Scenario) (a : ℕ) (calls : List Call) (run : BodyRun) → body_run m s a calls ≡ Some run → IsShort (length calls) run
