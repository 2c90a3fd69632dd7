use Rattle.pst_use_rules.proofs.CallsJudged as judged
use Rattle.pst_use_rules.proofs.laws.calls_are_judged.Goals as goal

pub returns : goal.returns
returns c = judged.calls_are_judged
