use Rattle.pst_claim_rivals.proofs.Differ.{differ}
use Rattle.pst_claim_rivals.proofs.laws.rivals_differ.Goals as goal

pub returns : goal.returns
returns c = differ
