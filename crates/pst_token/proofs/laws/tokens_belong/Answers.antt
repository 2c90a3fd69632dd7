use Rattle.pst_token.proofs.Belong.{belong}
use Rattle.pst_token.proofs.laws.tokens_belong.Goals as goal

pub returns : goal.returns
returns c = belong
