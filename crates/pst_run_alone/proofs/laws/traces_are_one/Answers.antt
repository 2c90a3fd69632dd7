use Rattle.pst_run_alone.proofs.OneAnswer.{traces_one}
use Rattle.pst_run_alone.proofs.laws.traces_are_one.Goals as goal

pub returns : goal.returns
returns c = traces_one c.bodies_end_once.ensures c.core_is_one.ensures.one
