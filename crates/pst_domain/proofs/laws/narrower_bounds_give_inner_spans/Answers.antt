use Rattle.pst_domain.proofs.IntervalLaws as lemmas
use Rattle.pst_domain.proofs.laws.narrower_bounds_give_inner_spans.Goals as goal

pub returns : goal.returns
returns c = lemmas.narrower_bounds_give_inner_spans
