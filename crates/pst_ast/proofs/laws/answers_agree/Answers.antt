use Rattle.pst_ast.proofs.Agree.{answers_agree}
use Rattle.pst_ast.proofs.laws.answers_agree.Goals as goal

pub returns : goal.returns
returns c = answers_agree
