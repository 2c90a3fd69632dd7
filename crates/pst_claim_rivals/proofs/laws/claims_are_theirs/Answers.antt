use Rattle.pst_claim_rivals.proofs.Listed.{theirs}
use Rattle.pst_claim_rivals.proofs.laws.claims_are_theirs.Goals as goal

pub returns : goal.returns
returns c = theirs
