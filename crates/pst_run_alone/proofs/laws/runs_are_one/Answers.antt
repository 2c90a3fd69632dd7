use Rattle.pst_run_alone.proofs.OneAnswer.{runs_one}
use Rattle.pst_run_alone.proofs.laws.runs_are_one.Goals as goal

pub returns : goal.returns
returns c = runs_one c.bodies_end_once.ensures c.core_is_one.ensures.one
