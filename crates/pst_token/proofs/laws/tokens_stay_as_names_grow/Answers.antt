use Rattle.pst_token.proofs.LawsHold.{longer}
use Rattle.pst_token.proofs.laws.tokens_stay_as_names_grow.Goals as goal

pub returns : goal.returns
returns c = longer
