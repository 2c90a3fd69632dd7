use Rattle.pst_domain.proofs.IntervalLaws as lemmas
use Rattle.pst_domain.proofs.laws.spans_hold_values.Goals as goal

pub returns : goal.returns
returns c = lemmas.spans_hold_values c.values_are_in_range.ensures
