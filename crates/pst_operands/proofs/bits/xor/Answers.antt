use Rattle.pst_num.specs.Bits.{bits_xor}
use Rattle.pst_operands.proofs.Factors.{turned}
use Rattle.pst_operands.proofs.Digits.{xor_turned}
use Rattle.pst_operands.proofs.bits.xor.Goals as goal

pub returns : goal.returns
returns c =
    record { left = c.turned.ensures; right = turned bits_xor c.args.spans.left c.args.spans.right c.args.wanted c.turned-2.result xor_turned c.turned-2.ensures }
