-- How a body ended on a lane.
use Rattle.std.specs.Prelude.{◌≡◌, ℕ, ◌+◌, ℤ, List, [], ◌⊎◌, length, Option, Some, IsSome, Result, Ok, Err, slice_get}
use Rattle.pst_target.specs.declared.call.Call.{Call as Answered}
use Rattle.pst_model.specs.ModelTree.{ModelTree}
use Rattle.pst_scen.specs.declared.act.Act.{Act}
use Rattle.pst_scen.specs.declared.scenario.Scenario.{Scenario}
use Rattle.pst_legal.specs.Types.{type_of}
use Rattle.pst_legal.specs.Body.{BodyRun, Ended, Trap as Trapped, Wants}
use Rattle.pst_body.specs.declared.ending.BodyEnd.{BodyEnd}
use Rattle.pst_body.specs.declared.ending.BodyEnd.TheVariants.{Fault, Trap, NoMemory}
use Rattle.pst_body.specs.Doing.{with_calls, CountsFault}

-- each action is of a type that there is
abbrev pub HasTypes : ModelTree → Scenario → Type 0
HasTypes m s = (a : ℕ) (act : Act) → slice_get s.actions a ≡ Some act → IsSome (type_of m act.action)

-- what a body comes to with these calls is that it wants another one
abbrev pub WantsMore : Option BodyRun → Type 0
WantsMore run = (function : ℕ) × (arguments : List ℤ) × (run ≡ Some (Wants function arguments))

-- what a body that ends so comes to with these calls
abbrev pub AreOf : {A : Type 0} → Option BodyRun → List Answered → Result A BodyEnd → Type 0
AreOf run made (Ok v) = run ≡ Some Ended
AreOf run made (Err (Fault call)) = WantsMore run × (call ≡ length made + 1)
AreOf run made (Err (Trap kind)) = run ≡ Some (Trapped kind)
AreOf run made (Err NoMemory) = (made ≡ []) ⊎ WantsMore run

-- A body made calls on a lane and ended so: what it comes to, given answered calls; what the lane tells of its calls before
-- and after; and its counts of faults.
pub record Ran {A : Type 0} (run : List Answered → Option BodyRun) (before after : Option (List Answered)) (faults_before faults_after : ℕ) (result : Result A BodyEnd) : Type 0 where
  pub made : List Answered
  pub calls : after ≡ with_calls before made
  pub are : AreOf (run made) made result
  pub faults : CountsFault result faults_before faults_after
