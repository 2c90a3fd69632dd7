use Rattle.pst_built.proofs.Whole.{whole_is_linked}
use Rattle.pst_built.proofs.readings.whole_readings_are_linked.Goals as goal

pub returns : goal.returns
returns c = whole_is_linked
