use Rattle.pst_square.proofs.Bits.{bit_test}
use Rattle.pst_square.proofs.circle.is_set.Goals as goal

pub returns : goal.returns
returns c = bit_test c.args.word c.args.k
