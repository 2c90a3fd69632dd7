use Rattle.pst_scenario_answers.proofs.OneCheck.{checks_one}
use Rattle.pst_scenario_answers.proofs.laws.checks_are_one.Goals as goal

pub returns : goal.returns
returns c = checks_one c.readings_are_one.ensures c.trace_verdicts_are_one.ensures
