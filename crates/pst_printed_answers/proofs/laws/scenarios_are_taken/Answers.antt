use Rattle.pst_printed_answers.proofs.Scenarios.{scenarios_taken}
use Rattle.pst_printed_answers.proofs.laws.scenarios_are_taken.Goals as goal

pub returns : goal.returns
returns c = scenarios_taken c.runs_are_taken.ensures c.shared_runs_are_taken.ensures
