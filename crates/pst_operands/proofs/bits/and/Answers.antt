use Rattle.pst_num.specs.Bits.{bits_and}
use Rattle.pst_operands.proofs.Factors.{turned}
use Rattle.pst_operands.proofs.Digits.{and_turned}
use Rattle.pst_operands.proofs.bits.and.Goals as goal

pub returns : goal.returns
returns c =
    record { left = c.masked.ensures; right = turned bits_and c.args.spans.left c.args.spans.right c.args.wanted c.masked-2.result and_turned c.masked-2.ensures }
