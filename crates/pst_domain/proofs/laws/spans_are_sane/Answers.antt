use Rattle.pst_domain.proofs.IntervalLaws as lemmas
use Rattle.pst_domain.proofs.laws.spans_are_sane.Goals as goal

pub returns : goal.returns
returns c = lemmas.spans_are_sane
