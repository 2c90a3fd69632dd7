use Rattle.pst_legal.proofs.Firsts.{first_is_one}
use Rattle.pst_legal.proofs.laws.first_is_one.Goals as goal

pub returns : goal.returns
returns c = first_is_one
