use Rattle.std.proofs.Common.{get_or, ◌+◌, ◌*◌, ◌/◌, ◌%◌}
use Rattle.pst_square.proofs.Bits.{bit_test}
use Rattle.pst_reduction.proofs.reducing.has_bit.Goals as goal

pub returns : goal.returns
returns c = bit_test (get_or c.args.words.now (c.args.a * c.args.row + c.args.b / 64) 0) (c.args.b % 64)
