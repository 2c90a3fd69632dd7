-- How a run on one lane ended.
use Rattle.std.specs.Prelude.{◌≡◌, ℕ, ◌+◌, ℤ, List, [], ◌∷◌, ◌++◌, length, false, Option, Result, Ok, Err}
use Rattle.pst_base.specs.Fault.{HasRisen}
use Rattle.pst_target.specs.declared.call.Call.{Call as Answered}
use Rattle.pst_model.specs.ModelTree.{ModelTree}
use Rattle.pst_scen.specs.declared.event.Event.{Event}
use Rattle.pst_scen.specs.declared.event.Event.TheVariants.{Start, End}
use Rattle.pst_scen.specs.declared.scenario.Scenario.{Scenario}
use Rattle.pst_scen.specs.Plan.{Entries, widest}
use Rattle.pst_scen.specs.Core.{Command, Open, Close, Core}
use Rattle.pst_scen.specs.Trace.{IsWhole, Prefix}
use Rattle.pst_legal.specs.Body.{BodyRun, Trap, Wants}
use Rattle.pst_legal.specs.Runs.{AreRuns, AreRunsUpTo}
use Rattle.pst_book.specs.Books.{View}
use Rattle.pst_body.specs.declared.ending.BodyEnd.{BodyEnd}
use Rattle.pst_body.specs.declared.ending.BodyEnd.TheVariants as body
use Rattle.pst_body.specs.Doing.{with_calls}
use Rattle.pst_exec.specs.declared.ending.RunEnd.{RunEnd}
use Rattle.pst_exec.specs.declared.ending.RunEnd.TheVariants.{Narrow, TargetFault, BodyTrap, NoMemory}

-- a group is opened, and the action that runs is ended, by turns: each of these actions, in this order
abbrev pub turns_of : List ℕ → List Command
turns_of [] = []
turns_of (a ∷ more) = Open ∷ Close a ∷ turns_of more

-- the actions one after another on lane 0, each ended before the next starts
abbrev pub events_of : List ℕ → List Event
events_of [] = []
events_of (a ∷ more) = Start a 0 false ∷ End a ∷ events_of more

-- a book of the scenario and its plan on one lane; the core makes its trace of these commands, and it begins a whole legal trace
pub record IsBookOf (s : Scenario) (plan : Entries) (commands : List Command) (book : View) : Type 0 where
  pub scenario : book.scenario ≡ s
  pub planned : book.plan ≡ plan
  pub lanes : book.lanes ≡ 1
  pub core : Core s 1 commands book.trace
  pub prefix : Prefix s 1 book.trace

-- All actions ran, one after another, and the lane's new calls are the runs of their bodies in that order.
pub record RanWhole (m : ModelTree) (s : Scenario) (plan : Entries) (before after : Option (List Answered)) (book : View) : Type 0 where
  pub actions : List ℕ
  pub is_of : IsBookOf s plan (turns_of actions) book
  pub trace : book.trace ≡ events_of actions
  pub whole : IsWhole s book.trace
  pub made : List Answered
  pub calls : after ≡ with_calls before made
  pub runs : AreRuns m s actions made

-- Actions ran, one after another, and then one more started, whose body came to that.
pub record RanUpTo (m : ModelTree) (s : Scenario) (plan : Entries) (before after : Option (List Answered)) (action : ℕ) (to : BodyRun) (book : View) : Type 0 where
  pub actions : List ℕ
  pub is_of : IsBookOf s plan (turns_of actions ++ Open ∷ []) book
  pub trace : book.trace ≡ events_of actions ++ Start action 0 false ∷ []
  pub made : List Answered
  pub calls : after ≡ with_calls before made
  pub runs : AreRunsUpTo m s actions action to made

-- and the body wants the call of that number, counted from 1 among its own
pub record FailedAt (m : ModelTree) (s : Scenario) (plan : Entries) (before after : Option (List Answered)) (action call : ℕ) (book : View) : Type 0 where
  pub function : ℕ
  pub arguments : List ℤ
  pub ran : RanUpTo m s plan before after action (Wants function arguments) book
  pub number : call ≡ length ran.runs.part + 1

-- A run of the scenario by its plan on one lane ended so: what the lane tells of its calls before and after, and its counts of
-- faults.
abbrev pub RunsAlone : ModelTree → Scenario → Entries → Option (List Answered) → Option (List Answered) → ℕ → ℕ → Result View RunEnd → Type 0
RunsAlone m s plan before after old new (Ok book) = RanWhole m s plan before after book × (new ≡ old)
RunsAlone m s plan before after old new (Err (Narrow need have)) = (need ≡ widest plan.groups) × (have ≡ 1) × (after ≡ before) × (new ≡ old)
RunsAlone m s plan before after old new (Err (TargetFault lane action call book)) = (lane ≡ 0) × FailedAt m s plan before after action call book × HasRisen old new
RunsAlone m s plan before after old new (Err (BodyTrap lane action kind book)) = (lane ≡ 0) × RanUpTo m s plan before after action (Trap kind) book × (new ≡ old)
RunsAlone m s plan before after old new (Err NoMemory) = (made : List Answered) × (after ≡ with_calls before made) × (new ≡ old)

abbrev pub IsNarrow : Result View RunEnd → Type 0
IsNarrow (Ok book) = ⊥
IsNarrow (Err (Narrow need have)) = Unit {0}
IsNarrow (Err (TargetFault lane action call book)) = ⊥
IsNarrow (Err (BodyTrap lane action kind book)) = ⊥
IsNarrow (Err NoMemory) = ⊥

-- how a run ends where the body of an action that runs on the lane ended so
abbrev pub end_of : View → ℕ → ℕ → BodyEnd → RunEnd
end_of book lane action (body.Fault call) = TargetFault lane action call book
end_of book lane action (body.Trap kind) = BodyTrap lane action kind book
end_of book lane action body.NoMemory = NoMemory
