use Rattle.pst_built.proofs.Whole.{whole_is_built, whole_is_within}
use Rattle.pst_built.proofs.readings.whole_readings_are_built.Goals as goal

pub returns-clause-built : goal.returns-clause-built
returns-clause-built c = whole_is_built

pub returns-clause-within : goal.returns-clause-within
returns-clause-within c = whole_is_within
