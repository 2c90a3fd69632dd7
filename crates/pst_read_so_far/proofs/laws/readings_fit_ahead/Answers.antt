use Rattle.pst_read_so_far.proofs.Ahead.{fit_ahead}
use Rattle.pst_read_so_far.proofs.laws.readings_fit_ahead.Goals as goal

pub returns : goal.returns
returns c = fit_ahead c.whole_lists_lie_ahead.ensures c.whole_readings_fit.ensures c.longer_lists_keep_what_is_known.ensures
