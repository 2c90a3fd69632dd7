-- A check of a scenario takes what a run of it prints.
use Rattle.std.proofs.Common.{ap}
use Rattle.pst_run_alone.specs.declared.answer.RunAnswer.{RunAnswer}
use Rattle.pst_run_alone.specs.declared.answer.RunAnswer.TheVariants as ran
use Rattle.pst_scenario_answers.specs.declared.check.CheckAnswer.{CheckAnswer}
use Rattle.pst_printed_runs.specs.Taken.{IsTaken, RunsAreTaken}
use Rattle.pst_outcome.specs.Models.{answer_of_run, answer_of_check, IsRun, IsSharedRun, IsJudged}
use Rattle.pst_printed_answers.specs.Taken.{Takes, SharedRunsAreTaken, ScenariosAreTaken}

-- the answer of a check, as the program tells it
told : (answer : RunAnswer) (given : CheckAnswer) → IsTaken answer given → Takes (answer_of_run answer) (answer_of_check given)
told (ran.Done actions) given is = ap answer_of_check is
told (ran.Narrow need have) given is = tt
told (ran.TargetFault number action call) given is = ap answer_of_check is
told (ran.BodyTrap number action kind) given is = ap answer_of_check is

pub scenarios_taken : RunsAreTaken → SharedRunsAreTaken → ScenariosAreTaken
scenarios_taken runs shared names m s plan other trace lanes more count _ _ text _ own links planned few (IsRun _ l others answer _ one is calm shows) (IsJudged given quiet checked) =
    told answer given (runs names m s plan l.before l.after l.faults_before l.faults_after answer text given own links planned shows checked)
scenarios_taken runs shared names m s plan other trace lanes more count _ _ text _ own links planned few (IsSharedRun _ answer _ several shows) (IsJudged given quiet checked) =
    told answer given (shared names m s plan count lanes answer text given own few shows checked)
