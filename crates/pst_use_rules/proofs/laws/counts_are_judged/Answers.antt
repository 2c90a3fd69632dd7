use Rattle.pst_use_rules.proofs.CountsJudged as judged
use Rattle.pst_use_rules.proofs.laws.counts_are_judged.Goals as goal

pub returns : goal.returns
returns c = judged.counts_are_judged
