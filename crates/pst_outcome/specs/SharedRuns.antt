-- Runs of a scenario on several lanes: what each lane was called for, and what is answered.
use Rattle.std.specs.Prelude.{◌≡◌, ℕ, ◌+◌, ◌<◌, ◌≤◌, ℤ, List, [], ◌∷◌, ◌++◌, length, get_or, Some}
use Rattle.pst_base.specs.Fault.{HasRisen}
use Rattle.pst_target.specs.declared.call.Call.{Call as Answered}
use Rattle.pst_model.specs.ModelTree.{ModelTree}
use Rattle.pst_scen.specs.declared.event.Event.{Event}
use Rattle.pst_scen.specs.declared.scenario.Scenario.{Scenario}
use Rattle.pst_scen.specs.Plan.{Entries, widest}
use Rattle.pst_scen.specs.Core.{Core, commands_of}
use Rattle.pst_scen.specs.Trace.{IsLegalTrace, IsWhole, Prefix}
use Rattle.pst_legal.specs.Body.{BodyRun, Trap, Wants}
use Rattle.pst_legal.specs.Runs.{AreRuns, AreRunsUpTo}
use Rattle.pst_body.specs.Doing.{with_calls}
use Rattle.pst_lanes.specs.Lanes.{starts_on, ends_on, IsRunning}
use Rattle.pst_trace_texts.specs.declared.last.Last.{Last}
use Rattle.pst_trace_texts.specs.declared.last.Last.TheVariants as last
use Rattle.pst_trace_texts.specs.Texts.{trace_text}
use Rattle.pst_run_alone.specs.declared.answer.RunAnswer.{RunAnswer}
use Rattle.pst_run_alone.specs.declared.answer.RunAnswer.TheVariants.{Done, Narrow, TargetFault, BodyTrap}
use Rattle.pst_run_alone.specs.Lanes.{Lane, IsUncalled, AreUncalled}
use Rattle.pst_run_alone.specs.Shown.{narrow_text}

-- ---- one lane

-- the lane's new calls are the whole runs of these actions' bodies, in this order, and no fault was counted
pub record HasRun (m : ModelTree) (s : Scenario) (actions : List ℕ) (l : Lane) : Type 0 where
  pub made : List Answered
  pub calls : l.after ≡ with_calls l.before made
  pub runs : AreRuns m s actions made
  pub count : l.faults_after ≡ l.faults_before

-- they are these runs, and then those of one more body, which has come to that
pub record HasRunUpTo (m : ModelTree) (s : Scenario) (actions : List ℕ) (action : ℕ) (to : BodyRun) (l : Lane) : Type 0 where
  pub made : List Answered
  pub calls : l.after ≡ with_calls l.before made
  pub runs : AreRunsUpTo m s actions action to made

-- why a body didn't end: its call of that number failed, counted from 1, or it trapped
pub data Break : Type 0 where
  Failed : (call : ℕ) → Break
  Trapped : (kind : ℕ) → Break

-- behind the whole runs of these actions the body of one more broke off so; only where it failed is a fault counted
pub data HasBroken (m : ModelTree) (s : Scenario) (actions : List ℕ) (action : ℕ) (l : Lane) : Break → Type 0 where
  AtCall : (function : ℕ) (arguments : List ℤ) (call : ℕ) (r : HasRunUpTo m s actions action (Wants function arguments) l)
      → call ≡ length r.runs.part + 1 → HasRisen l.faults_before l.faults_after → HasBroken m s actions action l (Failed call)
  InTrap : (kind : ℕ) → HasRunUpTo m s actions action (Trap kind) l → l.faults_after ≡ l.faults_before → HasBroken m s actions action l (Trapped kind)

-- the action runs on the lane: what starts there are the actions that end there, and then it
pub record RunsOn (trace : List Event) (number action : ℕ) : Type 0 where
  pub starts : starts_on number trace ≡ ends_on number trace ++ action ∷ []
  pub running : IsRunning trace number (Some action)

-- a lane of a run that stopped: the bodies of the actions that end there were run whole, and that of the one that runs there broke off, or wasn't begun
pub data HasStopped (m : ModelTree) (s : Scenario) (trace : List Event) (number : ℕ) (l : Lane) : Type 0 where
  BetweenBodies : HasRun m s (ends_on number trace) l → HasStopped m s trace number l
  InBody : (action : ℕ) (break : Break) → RunsOn trace number action → HasBroken m s (ends_on number trace) action l break → HasStopped m s trace number l

-- ---- all lanes

-- the lanes from that number on have no new call
abbrev pub AreUncalledFrom : ℕ → List Lane → Type 0
AreUncalledFrom count lanes = (k : ℕ) (d : Lane) → count ≤ k → k < length lanes → IsUncalled (get_or lanes k d)

-- The core made the trace, which is a whole legal one on so many lanes; each lane's new calls are the runs of the bodies of the actions that start there, in that order; and
-- the other lanes have none.
pub record HaveRun (m : ModelTree) (s : Scenario) (count : ℕ) (trace : List Event) (lanes : List Lane) : Type 0 where
  pub core : Core s count (commands_of trace) trace
  pub legal : IsLegalTrace s count trace
  pub whole : IsWhole s trace
  pub each : (k : ℕ) (d : Lane) → k < count → HasRun m s (starts_on k trace) (get_or lanes k d)
  pub others : AreUncalledFrom count lanes

-- The core made the trace, which begins a whole legal one on so many lanes. The action runs in it on the lane of that number, where its body broke off so, and on no lane
-- below did one.
pub record HaveStopped (m : ModelTree) (s : Scenario) (count : ℕ) (trace : List Event) (lanes : List Lane) (number action : ℕ) (break : Break) : Type 0 where
  pub core : Core s count (commands_of trace) trace
  pub prefix : Prefix s count trace
  pub inside : number < count
  pub runs : RunsOn trace number action
  pub here : (d : Lane) → HasBroken m s (ends_on number trace) action (get_or lanes number d) break
  pub below : (k : ℕ) (d : Lane) → k < number → HasRun m s (ends_on k trace) (get_or lanes k d)
  pub above : (k : ℕ) (d : Lane) → number < k → k < count → HasStopped m s trace k (get_or lanes k d)
  pub others : AreUncalledFrom count lanes

-- ---- answers

abbrev pub answer_of_break : ℕ → ℕ → Break → RunAnswer
answer_of_break number action (Failed call) = TargetFault number action call
answer_of_break number action (Trapped kind) = BodyTrap number action kind

abbrev pub last_of_break : ℕ → ℕ → Break → Last
last_of_break number action (Failed call) = last.Fault number action call
last_of_break number action (Trapped kind) = last.Trap number action kind

-- The widest group needs more than so many lanes, or the actions were run: all of them, or up to bodies that broke off, of which that on the least lane
-- is told. The text is that of the trace. In which order actions on different lanes start and end is not determined.
pub data ShowsSharedRun (names : List (List ℕ)) (m : ModelTree) (s : Scenario) (plan : Entries) (count : ℕ) (lanes : List Lane) : RunAnswer → List ℕ → Type 0 where
  IsTooWide : count < widest plan.groups → AreUncalled lanes
      → ShowsSharedRun names m s plan count lanes (Narrow (widest plan.groups) count) (narrow_text (widest plan.groups) count)
  EndsWhole : (trace : List Event) → (count < widest plan.groups → ⊥) → HaveRun m s count trace lanes
      → ShowsSharedRun names m s plan count lanes (Done (length s.actions)) (trace_text names m s trace last.Done)
  EndsEarly : (trace : List Event) (number action : ℕ) (break : Break) → (count < widest plan.groups → ⊥) → HaveStopped m s count trace lanes number action break
      → ShowsSharedRun names m s plan count lanes (answer_of_break number action break) (trace_text names m s trace (last_of_break number action break))
