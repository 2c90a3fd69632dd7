use Rattle.pst_reasons.proofs.OpenLemmas.{given_open}
use Rattle.pst_reasons.proofs.laws.given_spans_refuse_nothing.Goals as goal

pub returns : goal.returns
returns c = given_open c.narrower_bounds_give_inner_spans.ensures c.spans_are_sane.ensures
