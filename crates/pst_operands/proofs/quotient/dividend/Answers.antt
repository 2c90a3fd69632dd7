use Rattle.pst_num.specs.Arithmetic.{quotient_of}
use Rattle.pst_operands.proofs.Factors.{cut_then}
use Rattle.pst_operands.proofs.quotient.dividend.Goals as goal

pub returns-then-is_positive : goal.returns-then-is_positive
returns-then-is_positive c =
    cut_then quotient_of c.args.span c.args.divisor c.args.wanted c.low_by_positive-low.result c.high_by_positive.result c.low_by_positive-low.ensures c.high_by_positive.ensures

pub returns-then-is_negative : goal.returns-then-is_negative
returns-then-is_negative c =
    cut_then quotient_of c.args.span c.args.divisor c.args.wanted c.low_by_negative-low.result c.high_by_negative.result c.low_by_negative-low.ensures c.high_by_negative.ensures
