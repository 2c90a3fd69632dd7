use Rattle.pst_value_search.proofs.Refusals.{refusals}
use Rattle.pst_value_search.proofs.laws.refusals_hold_nothing.Goals as goal

pub returns : goal.returns
returns c = refusals
