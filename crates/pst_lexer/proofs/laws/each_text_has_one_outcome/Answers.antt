use Rattle.pst_lexer.proofs.OneAnswer.{one_outcome}
use Rattle.pst_lexer.proofs.laws.each_text_has_one_outcome.Goals as goal

pub returns : goal.returns
returns c = one_outcome
