use Rattle.pst_token.proofs.Determined.{determined}
use Rattle.pst_token.proofs.laws.tokens_are_determined.Goals as goal

pub returns : goal.returns
returns c = determined
