use Rattle.pst_use_rules.proofs.CallsJudged as judged
use Rattle.pst_use_rules.proofs.laws.assignments_are_judged.Goals as goal

pub returns : goal.returns
returns c = judged.assignments_are_judged
