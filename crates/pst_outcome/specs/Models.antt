-- What is answered of a model, with the text of the answer.
use Rattle.std.specs.Prelude.{◌≡◌, ◌<◌, ◌≤◌, ℕ, List, [], ◌∷◌, length, codes, Bool, false, slice_get}
use Rattle.std.specs.List.{count_by}
use Rattle.std.specs.Option.{option_map_or}
use Rattle.std.specs.Str.{bytes_eq}
use Rattle.pst_model.specs.ModelTree.{ModelTree}
use Rattle.pst_scen.specs.declared.act.Act.{Act}
use Rattle.pst_scen.specs.declared.event.Event.{Event}
use Rattle.pst_scen.specs.declared.event.Event.TheVariants.{Start, End}
use Rattle.pst_scen.specs.declared.scenario.Scenario.{Scenario}
use Rattle.pst_scen.specs.Plan.{Entries, widest}
use Rattle.pst_scen.specs.Plans.{IsPlanOf}
use Rattle.pst_legal.specs.Legal.{Legal}
use Rattle.pst_legal.specs.First.{IsFirst, Spent}
use Rattle.pst_book.specs.Books.{View}
use Rattle.pst_exec.specs.Alone.{RanWhole}
use Rattle.pst_trace_texts.specs.declared.last.Last.TheVariants as last
use Rattle.pst_trace_texts.specs.Named.{name}
use Rattle.pst_trace_texts.specs.Texts.{trace_text}
use Rattle.pst_scenario_answers.specs.declared.check.CheckAnswer.{CheckAnswer}
use Rattle.pst_scenario_answers.specs.declared.check.CheckAnswer.TheVariants as checked
use Rattle.pst_scenario_answers.specs.Checked.{IsChecked, answer_text}
use Rattle.pst_place_answers.specs.declared.answer.PlaceAnswer.{PlaceAnswer}
use Rattle.pst_place_answers.specs.declared.answer.PlaceAnswer.TheVariants as place
use Rattle.pst_place_answers.specs.Shown.{ShowsPlaces}
use Rattle.pst_static_answers.specs.declared.answer.StaticAnswer.{StaticAnswer}
use Rattle.pst_static_answers.specs.declared.answer.StaticAnswer.TheVariants as programs
use Rattle.pst_static_answers.specs.Shown.{ShowsStatic}
use Rattle.pst_addr.specs.declared.ask.Space.{Space}
use Rattle.pst_sweep_table.specs.declared.row.SweepRow.{SweepRow}
use Rattle.pst_sweep_table.specs.Rows.{IsTable}
use Rattle.pst_sweep_answers.specs.Shown.{ShowsSweep}
use Rattle.pst_run_alone.specs.declared.answer.RunAnswer.{RunAnswer}
use Rattle.pst_run_alone.specs.declared.answer.RunAnswer.TheVariants as ran
use Rattle.pst_run_alone.specs.Lanes.{Lane, AreUncalled}
use Rattle.pst_run_alone.specs.Shown.{ShowsRun}
use Rattle.pst_generated.specs.Generated.{counts_text}
use Rattle.pst_outcome.specs.declared.answer.Answer.{Answer}
use Rattle.pst_outcome.specs.declared.answer.Answer.TheVariants.{Done, Solved, Placed, Static, Swept, Whole, Prefix, NoScenario, Budget, NoRoom, Narrow, TargetFault, BodyTrap, BadTrace, Illegal}
use Rattle.pst_outcome.specs.declared.task.Task.{Task}
use Rattle.pst_outcome.specs.declared.task.Work.{Work}
use Rattle.pst_outcome.specs.declared.task.Work.TheVariants as work
use Rattle.pst_outcome.specs.Texts.{no_scenario_text, budget_text}
use Rattle.pst_outcome.specs.SharedRuns.{HaveRun, ShowsSharedRun}

-- ---- answers of the parts below

abbrev pub answer_of_run : RunAnswer → Answer
answer_of_run (ran.Done actions) = Done actions
answer_of_run (ran.Narrow need have) = Narrow need have
answer_of_run (ran.TargetFault number action call) = TargetFault number action call
answer_of_run (ran.BodyTrap number action kind) = BodyTrap number action kind

abbrev pub answer_of_check : CheckAnswer → Answer
answer_of_check checked.Whole = Whole
answer_of_check checked.Prefix = Prefix
answer_of_check (checked.BadTrace number) = BadTrace number
answer_of_check (checked.Illegal number rule) = Illegal number rule

abbrev pub answer_of_places : PlaceAnswer → Answer
answer_of_places (place.Placed asks) = Placed asks
answer_of_places (place.NoRoom action) = NoRoom action

abbrev pub answer_of_programs : StaticAnswer → Answer
answer_of_programs (programs.Static instructions) = Static instructions
answer_of_programs (programs.Narrow need have) = Narrow need have

-- ---- generated models

-- the action is of a type of that name
abbrev pub is_of_type : List (List ℕ) → ModelTree → List ℕ → Act → Bool
is_of_type names m type act = option_map_or (λ declared. bytes_eq (name names declared.name) type) (slice_get m.actions act.action) false

-- an action of that type ended
abbrev pub ends_type : List (List ℕ) → ModelTree → Scenario → List ℕ → Event → Bool
ends_type names m s type (Start act used more) = false
ends_type names m s type (End act) = option_map_or (is_of_type names m type) (slice_get s.actions act) false

abbrev pub count_ended : List (List ℕ) → ModelTree → Scenario → List Event → List ℕ → ℕ
count_ended names m s events type = count_by (ends_type names m s type) events

-- All actions were run one after another, and the text counts those that ended; else it is as for any other run.
pub data ShowsCounts (names : List (List ℕ)) (m : ModelTree) (s : Scenario) (plan : Entries) (size : ℕ) (l : Lane) : RunAnswer → List ℕ → Type 0 where
  HasEnded : (book : View) → (1 < widest plan.groups → ⊥) → RanWhole m s plan l.before l.after book → l.faults_after ≡ l.faults_before
      → ShowsCounts names m s plan size l (ran.Done (length s.actions))
      (counts_text size (count_ended names m s book.trace (codes "make")) (count_ended names m s book.trace (codes "take")) (length s.actions))
  EndsElse : (answer : RunAnswer) (text : List ℕ) → ShowsRun names m s plan l.before l.after l.faults_before l.faults_after answer text
      → ((actions : ℕ) → answer ≡ ran.Done actions → ⊥) → ShowsCounts names m s plan size l answer text

-- The same of a run on several lanes.
pub data ShowsSharedCounts (names : List (List ℕ)) (m : ModelTree) (s : Scenario) (plan : Entries) (size count : ℕ) (lanes : List Lane) : RunAnswer → List ℕ → Type 0 where
  HaveEnded : (trace : List Event) → (count < widest plan.groups → ⊥) → HaveRun m s count trace lanes
      → ShowsSharedCounts names m s plan size count lanes (ran.Done (length s.actions))
      (counts_text size (count_ended names m s trace (codes "make")) (count_ended names m s trace (codes "take")) (length s.actions))
  EndElse : (answer : RunAnswer) (text : List ℕ) → ShowsSharedRun names m s plan count lanes answer text
      → ((actions : ℕ) → answer ≡ ran.Done actions → ⊥) → ShowsSharedCounts names m s plan size count lanes answer text

-- ---- scenarios

-- The scenario is run on the first lane, or on so many of the first ones, of a generated model too; its header is printed; a trace is judged
-- against it; what its actions ask for is placed in a space; or lanes get programs for it.
pub data OfScenario (names : List (List ℕ)) (m : ModelTree) (s : Scenario) (plan : Entries) (trace : List ℕ) (lanes : List Lane) : Work → Answer → List ℕ → Type 0 where
  IsRun : (count : ℕ) (l : Lane) (others : List Lane) (answer : RunAnswer) (text : List ℕ) → count ≡ 1 → lanes ≡ l ∷ others → AreUncalled others
      → ShowsRun names m s plan l.before l.after l.faults_before l.faults_after answer text → OfScenario names m s plan trace lanes (work.Run count) (answer_of_run answer) text
  IsSharedRun : (count : ℕ) (answer : RunAnswer) (text : List ℕ) → 1 < count → ShowsSharedRun names m s plan count lanes answer text
      → OfScenario names m s plan trace lanes (work.Run count) (answer_of_run answer) text
  IsGenerated : (size count : ℕ) (l : Lane) (others : List Lane) (answer : RunAnswer) (text : List ℕ) → count ≡ 1 → lanes ≡ l ∷ others → AreUncalled others
      → ShowsCounts names m s plan size l answer text → OfScenario names m s plan trace lanes (work.Generate size count) (answer_of_run answer) text
  IsSharedGenerated : (size count : ℕ) (answer : RunAnswer) (text : List ℕ) → 1 < count → ShowsSharedCounts names m s plan size count lanes answer text
      → OfScenario names m s plan trace lanes (work.Generate size count) (answer_of_run answer) text
  IsSolved : AreUncalled lanes → OfScenario names m s plan trace lanes work.Solve (Solved (length s.actions)) (trace_text names m s [] last.Solved)
  IsJudged : (answer : CheckAnswer) → AreUncalled lanes → IsChecked names m s trace answer
      → OfScenario names m s plan trace lanes work.Check (answer_of_check answer) (answer_text answer)
  IsPlacing : (space : Space) (answer : PlaceAnswer) (text : List ℕ) → AreUncalled lanes → ShowsPlaces names m s plan space answer text
      → OfScenario names m s plan trace lanes (work.Place space) (answer_of_places answer) text
  IsProgrammed : (over : ℕ) (answer : StaticAnswer) (text : List ℕ) → AreUncalled lanes → ShowsStatic names m s plan over answer text
      → OfScenario names m s plan trace lanes (work.Static over) (answer_of_programs answer) text

-- ---- models

-- something is done with the first legal scenario
abbrev pub IsSought : Work → Type 0
IsSought (work.Sweep first count) = ⊥
IsSought done = Unit {0}

-- No scenario with so few inferred actions is legal; the budget is spent in a level that may be searched; the first legal scenario in the seed's
-- order with the fewest inferred actions is found; or many seeds are searched, and there is a row for each.
pub data OfModel (names : List (List ℕ)) (m : ModelTree) (root : ℕ) (task : Task) (trace : List ℕ) (lanes : List Lane) : Answer → List ℕ → Type 0 where
  HasNone : IsSought task.work → AreUncalled lanes → ((s : Scenario) → s.level ≤ task.infer → Legal m root s → ⊥)
      → OfModel names m root task trace lanes NoScenario (no_scenario_text task.infer)
  IsSpent : (level : ℕ) → IsSought task.work → AreUncalled lanes → level ≤ task.infer → Spent m root task.seed level task.budget
      → OfModel names m root task trace lanes (Budget level) (budget_text level)
  IsFound : (s : Scenario) (plan : Entries) (answer : Answer) (text : List ℕ) → IsFirst m root task.seed task.infer s → IsPlanOf s plan
      → OfScenario names m s plan trace lanes task.work answer text → OfModel names m root task trace lanes answer text
  IsSwept : (first count : ℕ) (rows : List SweepRow) (found : ℕ) (text : List ℕ) → task.work ≡ work.Sweep first count → AreUncalled lanes
      → IsTable m root task.infer task.budget first count rows → ShowsSweep names m rows found text → OfModel names m root task trace lanes (Swept found) text
