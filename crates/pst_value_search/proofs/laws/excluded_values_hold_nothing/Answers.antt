use Rattle.pst_value_search.proofs.Refusals.{excluded}
use Rattle.pst_value_search.proofs.laws.excluded_values_hold_nothing.Goals as goal

pub returns : goal.returns
returns c = excluded
