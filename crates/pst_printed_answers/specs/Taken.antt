-- What `run` prints is what `check` takes.
use Rattle.std.specs.Prelude.{◌≡◌, ◌⊎◌, ℕ, ◌≤◌, List}
use Rattle.pst_model.specs.ModelTree.{ModelTree}
use Rattle.pst_scen.specs.declared.scenario.Scenario.{Scenario}
use Rattle.pst_scen.specs.Plan.{Entries}
use Rattle.pst_scen.specs.Plans.{IsPlanOf}
use Rattle.pst_order.specs.Facts.{LinksStates}
use Rattle.pst_run_alone.specs.declared.answer.RunAnswer.{RunAnswer}
use Rattle.pst_run_alone.specs.Lanes.{Lane}
use Rattle.pst_scenario_answers.specs.declared.check.CheckAnswer.{CheckAnswer}
use Rattle.pst_scenario_answers.specs.Checked.{IsChecked}
use Rattle.pst_printed_traces.specs.Printed.{IsPrintable}
use Rattle.pst_printed_runs.specs.Taken.{IsTaken}
use Rattle.pst_outcome.specs.declared.answer.Answer.{Answer}
use Rattle.pst_outcome.specs.declared.answer.Answer.TheVariants.{Done, Whole, Prefix, TargetFault, BodyTrap}
use Rattle.pst_outcome.specs.declared.task.Task.{Task}
use Rattle.pst_outcome.specs.declared.task.Work.TheVariants as work
use Rattle.pst_outcome.specs.SharedRuns.{ShowsSharedRun}
use Rattle.pst_outcome.specs.Models.{OfScenario, OfModel}
use Rattle.pst_outcome.specs.Laws.{IsSpentBudget}
use Rattle.pst_printed_answers.specs.Names.{ArePrinted}

-- The text of a run on so many lanes is checked as what it is.
abbrev pub SharedRunsAreTaken : Type 0
SharedRunsAreTaken =
    (names : List (List ℕ)) (m : ModelTree) (s : Scenario) (plan : Entries) (count : ℕ) (lanes : List Lane) (answer : RunAnswer) (text : List ℕ) (given : CheckAnswer)
    → IsPrintable names s → count ≤ 16 → ShowsSharedRun names m s plan count lanes answer text → IsChecked names m s text given → IsTaken answer given

-- what a check answers of the text of that answer: whole where all actions ended, and a prefix where a body broke off; the text of another
-- answer is that of no trace
abbrev pub Takes : Answer → Answer → Type 0
Takes (Done actions) given = given ≡ Whole
Takes (TargetFault lane action call) given = given ≡ Prefix
Takes (BodyTrap lane action kind) given = given ≡ Prefix
Takes answer given = Unit {0}

-- What is printed of a run of a scenario, on one lane or on several, a check against it takes.
abbrev pub ScenariosAreTaken : Type 0
ScenariosAreTaken =
    (names : List (List ℕ)) (m : ModelTree) (s : Scenario) (plan other : Entries) (trace : List ℕ) (lanes told : List Lane) (count : ℕ) (answer given : Answer) (text said : List ℕ)
    → IsPrintable names s → LinksStates s → IsPlanOf s plan → count ≤ 16
    → OfScenario names m s plan trace lanes (work.Run count) answer text → OfScenario names m s other text told work.Check given said → Takes answer given

-- What is printed of a run of a model's first legal scenario a check takes that is given the same seed, and as many inferred actions or more; or
-- the check spends its budget, and so comes to no scenario.
abbrev pub ModelsAreTaken : Type 0
ModelsAreTaken =
    (names : List (List ℕ)) (m : ModelTree) (root : ℕ) (task other : Task) (trace : List ℕ) (lanes told : List Lane) (count : ℕ) (answer given : Answer) (text said : List ℕ)
    → ArePrinted names → count ≤ 16 → task.work ≡ work.Run count → other.work ≡ work.Check → other.seed ≡ task.seed → task.infer ≤ other.infer
    → OfModel names m root task trace lanes answer text → OfModel names m root other text told given said → IsSpentBudget given ⊎ Takes answer given
