use Rattle.pst_claim_rivals.proofs.Once.{once}
use Rattle.pst_claim_rivals.proofs.laws.claims_are_listed_once.Goals as goal

pub returns : goal.returns
returns c = once
