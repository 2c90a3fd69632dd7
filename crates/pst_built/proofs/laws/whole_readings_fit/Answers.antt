use Rattle.pst_built.proofs.Fit.{whole_fits}
use Rattle.pst_built.proofs.laws.whole_readings_fit.Goals as goal

pub returns : goal.returns
returns c = whole_fits c.domains_list_values.ensures
