use Rattle.pst_check.proofs.OneVerdict.{one_verdict}
use Rattle.pst_check.proofs.laws.verdicts_are_one.Goals as goal

pub returns : goal.returns
returns c s trace one other a b = one_verdict s trace c.whole_traces_are_prefixes.ensures one other a b
