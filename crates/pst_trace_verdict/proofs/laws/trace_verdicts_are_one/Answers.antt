use Rattle.pst_trace_verdict.proofs.OneVerdict.{verdicts_one}
use Rattle.pst_trace_verdict.proofs.laws.trace_verdicts_are_one.Goals as goal

pub returns : goal.returns
returns c = verdicts_one c.verdicts_are_one.ensures
