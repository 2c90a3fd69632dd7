-- What is printed of a run is taken by a check of it.
use Rattle.std.specs.Prelude.{◌≡◌, ℕ, List, Option}
use Rattle.pst_target.specs.declared.call.Call.{Call as Answered}
use Rattle.pst_model.specs.ModelTree.{ModelTree}
use Rattle.pst_scen.specs.declared.scenario.Scenario.{Scenario}
use Rattle.pst_scen.specs.Plan.{Entries}
use Rattle.pst_scen.specs.Plans.{IsPlanOf}
use Rattle.pst_order.specs.Facts.{LinksStates}
use Rattle.pst_run_alone.specs.declared.answer.RunAnswer.{RunAnswer}
use Rattle.pst_run_alone.specs.declared.answer.RunAnswer.TheVariants.{Done, Narrow, TargetFault, BodyTrap}
use Rattle.pst_run_alone.specs.Shown.{ShowsRun}
use Rattle.pst_scenario_answers.specs.declared.check.CheckAnswer.{CheckAnswer}
use Rattle.pst_scenario_answers.specs.declared.check.CheckAnswer.TheVariants.{Whole, Prefix}
use Rattle.pst_scenario_answers.specs.Checked.{IsChecked}
use Rattle.pst_printed_traces.specs.Printed.{IsPrintable}

-- what a check says of the text of that answer of a run: whole, or a prefix; where no lane was called there is no trace
abbrev pub IsTaken : RunAnswer → CheckAnswer → Type 0
IsTaken (Done actions) given = given ≡ Whole
IsTaken (Narrow need have) given = Unit {0}
IsTaken (TargetFault lane action call) given = given ≡ Prefix
IsTaken (BodyTrap lane action kind) given = given ≡ Prefix

-- The text of a run on one lane is checked as what it is.
abbrev pub RunsAreTaken : Type 0
RunsAreTaken =
    (names : List (List ℕ)) (m : ModelTree) (s : Scenario) (plan : Entries) (before after : Option (List Answered)) (old new : ℕ) (answer : RunAnswer) (text : List ℕ) (given : CheckAnswer)
    → IsPrintable names s → LinksStates s → IsPlanOf s plan → ShowsRun names m s plan before after old new answer text → IsChecked names m s text given → IsTaken answer given
