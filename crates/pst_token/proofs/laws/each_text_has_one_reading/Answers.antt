use Rattle.pst_token.proofs.LawsHold.{one_each}
use Rattle.pst_token.proofs.laws.each_text_has_one_reading.Goals as goal

pub returns : goal.returns
returns c = one_each
