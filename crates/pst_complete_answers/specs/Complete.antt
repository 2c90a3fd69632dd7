-- What stands in the way of a line, point by point, and which answers are good.
use Rattle.std.specs.Prelude.{◌≡◌, ℕ, ◌≤◌, List, ◌++◌, length, All, Option, Some}
use Rattle.pst_base.specs.Fault.{HasRisen}
use Rattle.pst_io.specs.Shelf.{Files}
use Rattle.pst_target.specs.declared.call.Call.{Call as Answered}
use Rattle.pst_model.specs.ModelTree.{ModelTree}
use Rattle.pst_scen.specs.declared.scenario.Scenario.{Scenario}
use Rattle.pst_scen.specs.Plan.{Entries, widest}
use Rattle.pst_scen.specs.Plans.{IsPlanOf}
use Rattle.pst_legal.specs.Legal.{Legal}
use Rattle.pst_legal.specs.First.{ReadsLegal, IsFirst}
use Rattle.pst_legal.specs.Body.{Trap, body_run}
use Rattle.pst_live_lists.specs.Few.{FewLive, IsUpTo, IsSearched}
use Rattle.pst_body.specs.Doing.{with_calls}
use Rattle.pst_run_alone.specs.Lanes.{Lane}
use Rattle.pst_addr.specs.declared.ask.Space.{Space}
use Rattle.pst_addr.specs.Places.{HasNoRoom}
use Rattle.pst_addr.specs.Asks.{asks_of}
use Rattle.pst_words.specs.declared.command.Command.{Command}
use Rattle.pst_words.specs.declared.command.Command.TheVariants.{Run, Solve, Check, Gen, Static, Place}
use Rattle.pst_words.specs.declared.command.Lines.{Lines}
use Rattle.pst_words.specs.Lines.{IsLine}
use Rattle.pst_outcome.specs.declared.answer.Answer.{Answer}
use Rattle.pst_outcome.specs.declared.answer.Answer.TheVariants.{Done, Solved, Placed, Whole, Prefix, BadTrace, Illegal}
use Rattle.pst_outcome.specs.declared.answer.Answer.TheVariants as answer
use Rattle.pst_outcome.specs.declared.task.Task.{Task}
use Rattle.pst_outcome.specs.declared.task.Work.{Work}
use Rattle.pst_outcome.specs.declared.task.Work.TheVariants as work
use Rattle.pst_outcome.specs.Tasks.{IsSweep, IsTask}
use Rattle.pst_outcome.specs.Sources.{HasModel}
use Rattle.pst_outcome.specs.Models.{IsSought}
use Rattle.pst_outcome.specs.Outcome.{HasFront}
use Rattle.pst_outcome.specs.Delivered.{Writing}

-- ---- the line

-- what a line asks: its command and the words behind it, the bytes of its trace file, the names and the model of its sources, the number of the root's
-- action type, and how the first legal scenario is sought and what is done with it
pub record Asked : Type 0 where
  pub command : Command
  pub arguments : List (List ℕ)
  pub trace : Option (List ℕ)
  pub names : List (List ℕ)
  pub model : ModelTree
  pub root : ℕ
  pub task : Task

-- The words are a line that asks this: its files are there and within the limits, its sources (of `gen` the generated one) are in the grammar and keep
-- all rules and limits, so they have the model, and something is done with the first legal scenario.
pub record AreAsking (lines : Lines) (have : ℕ) (words : List (List ℕ)) (files : Files) (old new : ℕ) (asked : Asked) : Type 0 where
  pub line : IsLine lines have words asked.command asked.arguments
  pub front : HasFront (Some files) old new asked.command asked.arguments asked.trace (HasModel asked.names asked.model asked.root)
  pub asks : IsTask asked.command asked.arguments asked.task
  pub sought : IsSought asked.task.work

-- The same of a line that asks for a sweep over seeds.
pub record AreSweeping (lines : Lines) (have : ℕ) (words : List (List ℕ)) (files : Files) (old new : ℕ) (asked : Asked) : Type 0 where
  pub line : IsLine lines have words asked.command asked.arguments
  pub front : HasFront (Some files) old new asked.command asked.arguments asked.trace (HasModel asked.names asked.model asked.root)
  pub asks : IsTask asked.command asked.arguments asked.task
  pub swept : IsSweep asked.task.work

-- neither the shelf's count of faults rose nor the sink's, and neither stands at its last value
pub record CallsSucceed (old new : ℕ) (w : Writing) : Type 0 where
  pub shelf : HasRisen old new → ⊥
  pub sink : HasRisen w.faults_before w.faults_after → ⊥

-- ---- the search

-- A list of choices reads a legal scenario of a level that is searched, and fewer live lists than the budget stand up to that list, and including it.
pub record IsLegalInTime (asked : Asked) : Type 0 where
  pub scenario : Scenario
  pub few_inferred : scenario.level ≤ asked.task.infer
  pub choices : List ℕ
  pub reads : ReadsLegal asked.model asked.root asked.task.seed scenario.level choices scenario
  pub few : FewLive asked.model asked.root asked.task.seed asked.task.budget (IsUpTo scenario.level choices)

-- The scenario is the first legal one, and fewer live lists than the budget stand up to its list of choices, and including it.
pub record IsFoundInTime (asked : Asked) (s : Scenario) : Type 0 where
  pub first : IsFirst asked.model asked.root asked.task.seed asked.task.infer s
  pub few : FewLive asked.model asked.root asked.task.seed asked.task.budget (IsUpTo s.level first.choices)

-- No scenario of a level that is searched is legal, and fewer live lists than the budget stand in these levels.
pub record IsMissedInTime (asked : Asked) : Type 0 where
  pub none : (s : Scenario) → s.level ≤ asked.task.infer → Legal asked.model asked.root s → ⊥
  pub few : FewLive asked.model asked.root asked.task.seed asked.task.budget (IsSearched asked.task.infer)

-- ---- the run

-- No body of an action traps at the last calls that the lane tells of, however many these are; where it doesn't tell, at any calls.
abbrev pub NoBodyTraps : ModelTree → Scenario → Lane → Type 0
NoBodyTraps m s l =
    (action kind : ℕ) (earlier calls : List Answered) → l.after ≡ with_calls l.before (earlier ++ calls) → body_run m s action calls ≡ Some (Trap kind) → ⊥

-- The widest group of the plan fits so many lanes, no lane's count of faults rose or stands at its last value, and no body traps.
pub record RunsFreely (m : ModelTree) (s : Scenario) (count : ℕ) (told : List Lane) : Type 0 where
  pub wide : (plan : Entries) → IsPlanOf s plan → widest plan.groups ≤ count
  pub lanes : All (λ l. HasRisen l.faults_before l.faults_after → ⊥) told
  pub bodies : All (NoBodyTraps m s) told

-- each ask of the scenario's actions has an address in the space
abbrev pub HasRoom : List (List ℕ) → ModelTree → Scenario → Space → Type 0
HasRoom names m s space = (plan : Entries) (number : ℕ) → IsPlanOf s plan → HasNoRoom plan space (asks_of names m s) number → ⊥

-- the widest group of the scenario's plan fits so many lanes
abbrev pub FitsOver : Scenario → ℕ → Type 0
FitsOver s over = (plan : Entries) → IsPlanOf s plan → widest plan.groups ≤ over

-- where the scenario is run, it runs freely on the lanes that the line says; the space of a line has room for its asks, and the lanes for which a line
-- asks for programs are enough
abbrev pub CanBeDone : List (List ℕ) → ModelTree → Scenario → List Lane → Work → Type 0
CanBeDone names m s told (work.Run count) = RunsFreely m s count told
CanBeDone names m s told (work.Generate size count) = RunsFreely m s count told
CanBeDone names m s told (work.Place space) = HasRoom names m s space
CanBeDone names m s told (work.Static over) = FitsOver s over
CanBeDone names m s told other = Unit {0}

-- ---- good answers

-- the good answers of a line whose first legal scenario has so many actions: all of them were run, the scenario's header was printed, the trace file
-- was judged, what the actions ask for has addresses, or the lanes have programs
pub data IsGood (actions : ℕ) : Command → Answer → Type 0 where
  WasRun : IsGood actions Run (Done actions)
  WasGenerated : IsGood actions Gen (Done actions)
  WasSolved : IsGood actions Solve (Solved actions)
  IsWhole : IsGood actions Check Whole
  IsPrefix : IsGood actions Check Prefix
  IsNoTrace : (line : ℕ) → IsGood actions Check (BadTrace line)
  IsIllegal : (line rule : ℕ) → IsGood actions Check (Illegal line rule)
  WasPlaced : (asks : ℕ) → IsGood actions Place (Placed asks)
  WasProgrammed : (instructions : ℕ) → IsGood actions Static (answer.Static instructions)

-- there is a first legal scenario, and the answer is good for it
pub record IsGoodForFirst (asked : Asked) (answer : Answer) : Type 0 where
  pub scenario : Scenario
  pub first : IsFirst asked.model asked.root asked.task.seed asked.task.infer scenario
  pub good : IsGood (length scenario.actions) asked.command answer
