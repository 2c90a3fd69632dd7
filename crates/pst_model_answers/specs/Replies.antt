-- Replies to a scenario that was found, and to a search and a run that ended without one.
use Rattle.std.specs.Prelude.{◌≡◌, ℕ, List, [], ◌∷◌, string_bytes, Result, Ok, Err}
use Rattle.pst_model.specs.ModelTree.{ModelTree}
use Rattle.pst_scen.specs.declared.scenario.Scenario.{Scenario}
use Rattle.pst_scen.specs.Plan.{Entries}
use Rattle.pst_search.specs.declared.first.SearchEnd.{SearchEnd}
use Rattle.pst_search.specs.declared.first.SearchEnd.TheVariants as search_end
use Rattle.pst_exec.specs.declared.ending.RunEnd.{RunEnd}
use Rattle.pst_run_alone.specs.declared.answer.ShownRun.{ShownRun}
use Rattle.pst_run_alone.specs.Lanes.{Lane, HasMade}
use Rattle.pst_run_alone.specs.Shown as shown_run
use Rattle.pst_scenario_answers.specs.declared.check.CheckAnswer.{CheckAnswer}
use Rattle.pst_scenario_answers.specs.Checked.{IsChecked, answer_text}
use Rattle.pst_addr.specs.declared.ask.Space.{Space}
use Rattle.pst_place_answers.specs.declared.answer.PlaceAnswer.{PlaceAnswer}
use Rattle.pst_place_answers.specs.Shown.{ShowsPlaces}
use Rattle.pst_static_answers.specs.declared.answer.StaticAnswer.{StaticAnswer}
use Rattle.pst_static_answers.specs.Shown.{ShowsStatic}
use Rattle.pst_outcome.specs.declared.answer.Answer.{Answer}
use Rattle.pst_outcome.specs.declared.answer.Answer.TheVariants.{NoScenario, Budget}
use Rattle.pst_outcome.specs.declared.reply.Reply.{Reply}
use Rattle.pst_outcome.specs.declared.task.Work.{Work}
use Rattle.pst_outcome.specs.Texts.{no_scenario_text, budget_text}
use Rattle.pst_outcome.specs.Models.{OfScenario, answer_of_run, answer_of_check, answer_of_places, answer_of_programs}

-- the reply has this answer and this text
pub record Says (answer : Answer) (text : List ℕ) (reply : Reply) : Type 0 where
  pub answer_is : reply.answer ≡ answer
  pub text_is : string_bytes reply.text ≡ text

-- the reply to a search of scenarios with so few inferred actions that ended so
abbrev pub SaysEnd : ℕ → SearchEnd → Reply → Type 0
SaysEnd infer search_end.NoScenario reply = Says NoScenario (no_scenario_text infer) reply
SaysEnd infer (search_end.Budget level) reply = Says (Budget level) (budget_text level) reply
SaysEnd infer search_end.NoMemory reply = ⊥

-- the reply tells what is shown of a run
pub record Tells (shown : ShownRun) (reply : Reply) : Type 0 where
  pub answer_is : reply.answer ≡ answer_of_run shown.answer
  pub text_is : string_bytes reply.text ≡ string_bytes shown.text

-- the reply to a run that ended so, and wasn't whole
abbrev pub TellsEnd : List (List ℕ) → ModelTree → Scenario → RunEnd → Reply → Type 0
TellsEnd names m s stop reply = (shown : ShownRun) × shown_run.SaysEnd names m s stop shown × Tells shown reply

-- the reply to a trace that is judged against the scenario
abbrev pub SaysCheck : List (List ℕ) → ModelTree → Scenario → List ℕ → Reply → Type 0
SaysCheck names m s trace reply = (answer : CheckAnswer) × IsChecked names m s trace answer × Says (answer_of_check answer) (answer_text answer) reply

-- the reply that places what the scenario's actions ask for
abbrev pub SaysPlaces : List (List ℕ) → ModelTree → Scenario → Entries → Space → Reply → Type 0
SaysPlaces names m s plan space reply = (answer : PlaceAnswer) × ShowsPlaces names m s plan space answer (string_bytes reply.text) × (reply.answer ≡ answer_of_places answer)

-- the reply that gives programs to so many lanes
abbrev pub SaysPrograms : List (List ℕ) → ModelTree → Scenario → Entries → ℕ → Reply → Type 0
SaysPrograms names m s plan over reply = (answer : StaticAnswer) × ShowsStatic names m s plan over answer (string_bytes reply.text) × (reply.answer ≡ answer_of_programs answer)

-- the reply to the scenario on one lane; where memory ran out, calls may have been made
abbrev pub Replies : List (List ℕ) → ModelTree → Scenario → Entries → List ℕ → Lane → Work → {E : Type 0} → Result Reply E → Type 0
Replies names m s plan trace l done (Ok reply) = OfScenario names m s plan trace (l ∷ []) done reply.answer (string_bytes reply.text)
Replies names m s plan trace l done (Err e) = HasMade l
