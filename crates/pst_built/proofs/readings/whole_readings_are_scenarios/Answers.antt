use Rattle.pst_built.proofs.Whole.{whole_is_scenario}
use Rattle.pst_built.proofs.readings.whole_readings_are_scenarios.Goals as goal

pub returns : goal.returns
returns c = whole_is_scenario
