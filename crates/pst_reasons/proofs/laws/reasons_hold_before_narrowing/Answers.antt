use Rattle.pst_reasons.proofs.OpenLemmas.{reasons_before}
use Rattle.pst_reasons.proofs.laws.reasons_hold_before_narrowing.Goals as goal

pub returns : goal.returns
returns c = reasons_before
