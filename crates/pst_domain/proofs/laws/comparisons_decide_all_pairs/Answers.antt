use Rattle.pst_domain.proofs.ComparisonLaws as lemmas
use Rattle.pst_domain.proofs.laws.comparisons_decide_all_pairs.Goals as goal

pub returns : goal.returns
returns c = lemmas.decide_all_pairs
