-- What a run of a scenario on one lane is answered, and the text of the answer.
use Rattle.std.specs.Prelude.{◌≡◌, ℕ, ◌<◌, List, ◌++◌, length, codes, decimal, string_bytes, Option, Some, Result, Ok, Err}
use Rattle.pst_base.specs.Fault.{HasRisen}
use Rattle.pst_target.specs.declared.call.Call.{Call as Answered}
use Rattle.pst_model.specs.ModelTree.{ModelTree}
use Rattle.pst_scen.specs.declared.scenario.Scenario.{Scenario}
use Rattle.pst_scen.specs.Plan.{Entries, widest}
use Rattle.pst_scen.specs.Plans.{IsPlanOf}
use Rattle.pst_legal.specs.Body.{Trap}
use Rattle.pst_book.specs.Books.{View}
use Rattle.pst_body.specs.Doing.{with_calls}
use Rattle.pst_exec.specs.Alone.{RanWhole, RanUpTo, FailedAt}
use Rattle.pst_exec.specs.declared.ending.RunEnd.{RunEnd}
use Rattle.pst_exec.specs.declared.ending.RunEnd.TheVariants as end
use Rattle.pst_trace_texts.specs.declared.last.Last.TheVariants as last
use Rattle.pst_trace_texts.specs.Lines.{line}
use Rattle.pst_trace_texts.specs.Texts.{trace_text}
use Rattle.pst_run_alone.specs.declared.answer.RunAnswer.{RunAnswer}
use Rattle.pst_run_alone.specs.declared.answer.RunAnswer.TheVariants.{Done, Narrow, TargetFault, BodyTrap}
use Rattle.pst_run_alone.specs.declared.answer.ShownRun.{ShownRun}

abbrev pub narrow_text : ℕ → ℕ → List ℕ
narrow_text need have = line (codes "narrow " ++ decimal need ++ codes " " ++ decimal have)

-- The widest group needs more than one lane, or the actions were run one after another: all of them, or up to one whose body
-- made the lane fail or trapped. Before and after: what the lane tells of its calls, and its counts of faults.
pub data ShowsRun (names : List (List ℕ)) (m : ModelTree) (s : Scenario) (plan : Entries) (before after : Option (List Answered)) (old new : ℕ) : RunAnswer → List ℕ → Type 0 where
  IsTooWide : 1 < widest plan.groups → after ≡ before → new ≡ old
      → ShowsRun names m s plan before after old new (Narrow (widest plan.groups) 1) (narrow_text (widest plan.groups) 1)
  HasEnded : (book : View) → (1 < widest plan.groups → ⊥) → RanWhole m s plan before after book → new ≡ old
      → ShowsRun names m s plan before after old new (Done (length s.actions)) (trace_text names m s book.trace last.Done)
  HasFailed : (action call : ℕ) (book : View) → (1 < widest plan.groups → ⊥) → FailedAt m s plan before after action call book → HasRisen old new
      → ShowsRun names m s plan before after old new (TargetFault 0 action call) (trace_text names m s book.trace (last.Fault 0 action call))
  HasTrapped : (action kind : ℕ) (book : View) → (1 < widest plan.groups → ⊥) → RanUpTo m s plan before after action (Trap kind) book → new ≡ old
      → ShowsRun names m s plan before after old new (BodyTrap 0 action kind) (trace_text names m s book.trace (last.Trap 0 action kind))

-- this answer and this text are shown
pub record Says (answer : RunAnswer) (text : List ℕ) (shown : ShownRun) : Type 0 where
  pub answer_is : shown.answer ≡ answer
  pub text_is : string_bytes shown.text ≡ text

-- what is shown of a run that ended so, and wasn't whole
abbrev pub SaysEnd : List (List ℕ) → ModelTree → Scenario → RunEnd → ShownRun → Type 0
SaysEnd names m s (end.Narrow need have) shown = Says (Narrow need have) (narrow_text need have) shown
SaysEnd names m s (end.TargetFault lane action call book) shown = Says (TargetFault lane action call) (trace_text names m s book.trace (last.Fault lane action call)) shown
SaysEnd names m s (end.BodyTrap lane action kind book) shown = Says (BodyTrap lane action kind) (trace_text names m s book.trace (last.Trap lane action kind)) shown
SaysEnd names m s end.NoMemory shown = ⊥

-- the answer and text of a run; where memory ran out, calls may have been made
abbrev pub Shows : List (List ℕ) → ModelTree → Scenario → Entries → Option (List Answered) → Option (List Answered) → ℕ → ℕ → {E : Type 0} → Result ShownRun E → Type 0
Shows names m s plan before after old new (Ok shown) = ShowsRun names m s plan before after old new shown.answer (string_bytes shown.text)
Shows names m s plan before after old new (Err e) = (made : List Answered) × (after ≡ with_calls before made)

-- What a lane tells of its calls decides the answer of a run and its text.
abbrev pub RunsAreOne : Type 0
RunsAreOne =
    (names : List (List ℕ)) (m : ModelTree) (s : Scenario) (p q : Entries) (before after : List Answered) (old new : ℕ) (x y : RunAnswer) (t u : List ℕ)
    → IsPlanOf s p → IsPlanOf s q → ShowsRun names m s p (Some before) (Some after) old new x t → ShowsRun names m s q (Some before) (Some after) old new y u
    → (x ≡ y) × (t ≡ u)

-- What a lane tells of its calls decides the trace of a whole run.
abbrev pub TracesAreOne : Type 0
TracesAreOne =
    (m : ModelTree) (s : Scenario) (p q : Entries) (before after : List Answered) (book other : View)
    → RanWhole m s p (Some before) (Some after) book → RanWhole m s q (Some before) (Some after) other → book.trace ≡ other.trace
