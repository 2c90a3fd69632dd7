-- The law of answers.
use Rattle.std.specs.Prelude.{◌≡◌, ◌⊎◌, ℕ, ◌<◌, ℤ, List, [], ◌∷◌, length, get_or, codes, All, Some}
use Rattle.std.specs.List.{AllZip}
use Rattle.pst_base.specs.Fault.{last_count}
use Rattle.pst_io.specs.Shelf.{Files}
use Rattle.pst_target.specs.declared.call.Call.{Call as Answered}
use Rattle.pst_model.specs.ModelTree.{ModelTree}
use Rattle.pst_scen.specs.declared.event.Event.{Event}
use Rattle.pst_scen.specs.declared.scenario.Scenario.{Scenario}
use Rattle.pst_scen.specs.Core.{commands_of}
use Rattle.pst_legal.specs.Body.{Trap, Wants, body_run}
use Rattle.pst_trace_texts.specs.declared.last.Last.TheVariants as last
use Rattle.pst_trace_texts.specs.Texts.{trace_text}
use Rattle.pst_run_alone.specs.Lanes.{Lane}
use Rattle.pst_generated.specs.Generated.{counts_text}
use Rattle.pst_sweep_table.specs.declared.row.SweepRow.{SweepRow}
use Rattle.pst_sweep_table.specs.Laws.{IsBudget}
use Rattle.pst_sweep_answers.specs.Shown.{ShowsSweep}
use Rattle.pst_words.specs.declared.command.Command.{Command}
use Rattle.pst_words.specs.declared.command.Lines.{Lines}
use Rattle.pst_words.specs.declared.key.Key.TheVariants.{Lanes}
use Rattle.pst_words.specs.Lines.{IsLine}
use Rattle.pst_outcome.specs.declared.answer.Answer.{Answer}
use Rattle.pst_outcome.specs.declared.answer.Answer.TheVariants.{Done, Swept, Budget}
use Rattle.pst_outcome.specs.Tasks.{IsNumberGiven}
use Rattle.pst_outcome.specs.SharedRuns.{Break, Failed, Trapped, HaveRun, HaveStopped, answer_of_break, last_of_break}
use Rattle.pst_outcome.specs.Models.{answer_of_run, count_ended}
use Rattle.pst_outcome.specs.Outcome.{IsOwed}

-- the budget is said to be spent
abbrev pub IsSpentBudget : Answer → Type 0
IsSpentBudget (Budget level) = Unit {0}
IsSpentBudget other = ⊥

-- ---- runs on several lanes

-- what is told of a run: its whole trace; how many actions of a generated model of that size ended; or its trace up to a body that broke off
pub data Telling : Type 0 where
  Whole : Telling
  Counts : (size : ℕ) → Telling
  Stop : (number action : ℕ) → (break : Break) → Telling

abbrev pub answer_told : Scenario → Telling → Answer
answer_told s Whole = Done (length s.actions)
answer_told s (Counts size) = Done (length s.actions)
answer_told s (Stop number action break) = answer_of_run (answer_of_break number action break)

abbrev pub text_told : List (List ℕ) → ModelTree → Scenario → List Event → Telling → List ℕ
text_told names m s trace Whole = trace_text names m s trace last.Done
text_told names m s trace (Counts size) = counts_text size (count_ended names m s trace (codes "make")) (count_ended names m s trace (codes "take")) (length s.actions)
text_told names m s trace (Stop number action break) = trace_text names m s trace (last_of_break number action break)

-- a run with this trace, on so many of lanes that tell that, was so
abbrev pub HasCome : ModelTree → Scenario → ℕ → List Lane → List Event → Telling → Type 0
HasCome m s count lanes trace Whole = HaveRun m s count trace lanes
HasCome m s count lanes trace (Counts size) = HaveRun m s count trace lanes
HasCome m s count lanes trace (Stop number action break) = HaveStopped m s count trace lanes number action break

-- the answer and its text tell that of a run with this trace
pub record TellsRun (names : List (List ℕ)) (m : ModelTree) (s : Scenario) (count : ℕ) (lanes : List Lane) (trace : List Event) (telling : Telling) (a : Answer) (t : List ℕ) : Type 0 where
  pub come : HasCome m s count lanes trace telling
  pub answer : a ≡ answer_told s telling
  pub text : t ≡ text_told names m s trace telling

-- The body broke off before it had made a call, so what the lane tells is the same where it wasn't begun: it trapped, or its first call failed while the
-- lane's count of faults stood at its last value.
abbrev pub BreaksAtOnce : ModelTree → Scenario → ℕ → Lane → Break → Type 0
BreaksAtOnce m s action l (Failed call) =
    (function : ℕ) × (arguments : List ℤ) × (body_run m s action [] ≡ Some (Wants function arguments)) × (call ≡ 1) × (l.faults_before ≡ last_count)
BreaksAtOnce m s action l (Trapped kind) = body_run m s action [] ≡ Some (Trap kind)

-- the actions start and end in another order
abbrev pub HaveOtherCommands : List Event → List Event → Type 0
HaveOtherCommands trace other = commands_of trace ≡ commands_of other → ⊥

-- Where two tellings of runs with these traces may differ. The core makes one trace of the same commands, so of these they tell the same, unless both
-- stopped and tell of different lanes: then the body on the less one broke off at once. What is counted is the same whatever the commands.
abbrev pub MayDiffer : ModelTree → Scenario → List Lane → List Event → List Event → Telling → Telling → Type 0
MayDiffer m s lanes trace other Whole Whole = HaveOtherCommands trace other
MayDiffer m s lanes trace other Whole (Counts size) = ⊥
MayDiffer m s lanes trace other Whole (Stop number action break) = HaveOtherCommands trace other
MayDiffer m s lanes trace other (Counts size) Whole = ⊥
MayDiffer m s lanes trace other (Counts size) (Counts more) = ⊥
MayDiffer m s lanes trace other (Counts size) (Stop number action break) = HaveOtherCommands trace other
MayDiffer m s lanes trace other (Stop number action break) Whole = HaveOtherCommands trace other
MayDiffer m s lanes trace other (Stop number action break) (Counts size) = HaveOtherCommands trace other
MayDiffer m s lanes trace other (Stop number action break) (Stop less act end) =
    HaveOtherCommands trace other
    ⊎ (((number < less) × ((d : Lane) → BreaksAtOnce m s action (get_or lanes number d) break)) ⊎ ((less < number) × ((d : Lane) → BreaksAtOnce m s act (get_or lanes less d) end)))

-- two answers with their texts tell of runs of the scenario on so many of the lanes, and may differ
pub record TellTwoRuns (names : List (List ℕ)) (m : ModelTree) (s : Scenario) (count : ℕ) (lanes : List Lane) (a b : Answer) (t u : List ℕ) : Type 0 where
  pub trace : List Event
  pub other : List Event
  pub one : Telling
  pub another : Telling
  pub first : TellsRun names m s count lanes trace one a t
  pub second : TellsRun names m s count lanes other another b u
  pub differ : MayDiffer m s lanes trace other one another

-- The words ask for a run on several lanes, and both answers tell of runs of one scenario that may differ. In which order bodies on different lanes end
-- isn't determined, so neither is on which lanes later ones start, nor whether a body was begun where another one broke off.
pub record AreOfOneRun (lines : Lines) (have : ℕ) (words : List (List ℕ)) (lanes : List Lane) (a b : Answer) (t u : List ℕ) : Type 0 where
  pub command : Command
  pub arguments : List (List ℕ)
  pub line : IsLine lines have words command arguments
  pub count : ℕ
  pub given : IsNumberGiven Lanes arguments 1 count
  pub several : 1 < count
  pub names : List (List ℕ)
  pub model : ModelTree
  pub scenario : Scenario
  pub runs : TellTwoRuns names model scenario count lanes a b t u

-- ---- sweeps

-- the rows of a seed are one, or one of them is a spent budget
pub record RowsAreAlike (row other : SweepRow) : Type 0 where
  pub seeds : row.seed ≡ other.seed
  pub rows : (row ≡ other) ⊎ (IsBudget row.outcome ⊎ IsBudget other.outcome)

-- some row is a spent budget
abbrev pub HasSpentRow : List SweepRow → Type 0
HasSpentRow [] = ⊥
HasSpentRow (row ∷ rows) = IsBudget row.outcome ⊎ HasSpentRow rows

-- the answer and its text tell of these rows
pub record TellsRows (names : List (List ℕ)) (m : ModelTree) (rows : List SweepRow) (a : Answer) (t : List ℕ) : Type 0 where
  pub found : ℕ
  pub answer : a ≡ Swept found
  pub shows : ShowsSweep names m rows found t

-- Both answers tell of the rows of the same seeds, seed by seed alike, and in one of them some row is a spent budget.
pub record AreOfOneSweep (a b : Answer) (t u : List ℕ) : Type 0 where
  pub names : List (List ℕ)
  pub model : ModelTree
  pub rows : List SweepRow
  pub others : List SweepRow
  pub first : TellsRows names model rows a t
  pub second : TellsRows names model others b u
  pub alike : AllZip RowsAreAlike rows others
  pub spent : HasSpentRow rows ⊎ HasSpentRow others

-- ---- all words

-- The answers and their texts are one; or the budget is said to be spent in one of them; or both tell of a run on several lanes, or of a sweep of which
-- some row is a spent budget.
abbrev pub Agree : Lines → ℕ → List (List ℕ) → List Lane → Answer → Answer → List ℕ → List ℕ → Type 0
Agree lines have words lanes a b t u = ((a ≡ b) × (t ≡ u)) ⊎ ((IsSpentBudget a ⊎ IsSpentBudget b) ⊎ (AreOfOneRun lines have words lanes a b t u ⊎ AreOfOneSweep a b t u))

-- the lane tells its calls
abbrev pub IsTold : Lane → Type 0
IsTold l = (before : List Answered) × (after : List Answered) × (l.before ≡ Some before) × (l.after ≡ Some after)

-- Where the files and the lanes' calls are told, no call of the shelf failed and its count of faults is below its last value, words have at most one
-- right answer with one text, but for the choice between a budget that is spent and another answer, of a seed in a sweep too, and but for runs on several
-- lanes.
abbrev pub AnswersAreOne : Type 0
AnswersAreOne =
    (lines : Lines) (have : ℕ) (words : List (List ℕ)) (files : Files) (faults : ℕ) (lanes : List Lane) (a b : Answer) (t u : List ℕ)
    → faults < last_count → All IsTold lanes → IsOwed lines have words (Some files) faults faults lanes a t → IsOwed lines have words (Some files) faults faults lanes b u
    → Agree lines have words lanes a b t u
