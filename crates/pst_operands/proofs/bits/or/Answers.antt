use Rattle.pst_num.specs.Bits.{bits_or}
use Rattle.pst_operands.proofs.Factors.{turned}
use Rattle.pst_operands.proofs.Digits.{or_turned}
use Rattle.pst_operands.proofs.bits.or.Goals as goal

pub returns : goal.returns
returns c =
    record { left = c.with_more.ensures; right = turned bits_or c.args.spans.left c.args.spans.right c.args.wanted c.with_more-2.result or_turned c.with_more-2.ensures }
