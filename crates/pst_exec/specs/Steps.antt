-- The steps of a run on one lane.
use Rattle.std.specs.Prelude.{◌≡◌, ℕ, ◌<◌, List, [], ◌∷◌, ◌++◌, length, false, Option, Some, Result, Ok, Err}
use Rattle.pst_target.specs.declared.call.Call.{Call as Answered}
use Rattle.pst_model.specs.ModelTree.{ModelTree}
use Rattle.pst_scen.specs.declared.event.Event.TheVariants.{Start, End}
use Rattle.pst_scen.specs.Trace.{Runs, IsWhole}
use Rattle.pst_legal.specs.Body.{body_run, Ended}
use Rattle.pst_legal.specs.Runs.{AreRuns}
use Rattle.pst_book.specs.Books.{View, with_trace}
use Rattle.pst_body.specs.Doing.{with_calls}
use Rattle.pst_body.specs.Ran.{Ran}
use Rattle.pst_exec.specs.declared.alone.Broken.{Broken}
use Rattle.pst_exec.specs.Alone.{events_of}

-- a book on one lane in which actions ran one after another, and none runs
pub record IsSerial (book : View) : Type 0 where
  pub lanes : book.lanes ≡ 1
  pub actions : List ℕ
  pub trace : book.trace ≡ events_of actions

-- one more action runs
pub record StartsNext (old new : View) (action : ℕ) : Type 0 where
  pub new_is : new ≡ with_trace old (old.trace ++ Start action 0 false ∷ [])
  pub inside : action < length old.scenario.actions
  pub runs : Runs new.trace action

-- one more action ran to its end
pub record RanNext (m : ModelTree) (old new : View) (before after : Option (List Answered)) : Type 0 where
  pub action : ℕ
  pub new_is : new ≡ with_trace old (old.trace ++ Start action 0 false ∷ End action ∷ [])
  pub made : List Answered
  pub calls : after ≡ with_calls before made
  pub run : body_run m old.scenario action made ≡ Some Ended

-- or started, and its body didn't end
abbrev pub RunsNext : ModelTree → View → View → Option (List Answered) → Option (List Answered) → ℕ → ℕ → Result Unit Broken → Type 0
RunsNext m old new before after fewer more (Ok v) = RanNext m old new before after × (more ≡ fewer)
RunsNext m old new before after fewer more (Err broken) =
    StartsNext old new broken.action × Ran {A = Unit {0}} (body_run m old.scenario broken.action) before after fewer more (Err broken.end)

-- these actions ran one after another since the book had no event, and no fault was counted
pub record Going (m : ModelTree) (old new : View) (before after : Option (List Answered)) (fewer more : ℕ) : Type 0 where
  pub actions : List ℕ
  pub new_is : new ≡ with_trace old (events_of actions)
  pub made : List Answered
  pub calls : after ≡ with_calls before made
  pub runs : AreRuns m old.scenario actions made
  pub faults : more ≡ fewer

-- all that is left ran, or up to an action whose body didn't end
abbrev pub RanRest : ModelTree → View → View → Option (List Answered) → Option (List Answered) → ℕ → ℕ → Result Unit Broken → Type 0
RanRest m old new before after fewer more (Ok v) = Going m old new before after fewer more × IsWhole old.scenario new.trace
RanRest m old new before after fewer more (Err broken) =
    (middle : View) × (between : Option (List Answered)) × (faults : ℕ) × Going m old middle before between fewer faults
    × StartsNext middle new broken.action × Ran {A = Unit {0}} (body_run m old.scenario broken.action) between after faults more (Err broken.end)
