use Rattle.pst_built.proofs.Whole.{whole_has_sources}
use Rattle.pst_built.proofs.readings.whole_readings_have_sources.Goals as goal

pub returns : goal.returns
returns c = whole_has_sources
