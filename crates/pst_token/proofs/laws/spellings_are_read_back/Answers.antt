use Rattle.pst_token.proofs.LawsHold.{read_back}
use Rattle.pst_token.proofs.laws.spellings_are_read_back.Goals as goal

pub returns : goal.returns
returns c = read_back
