use Rattle.pst_num.specs.Arithmetic.{product_of}
use Rattle.pst_operands.proofs.Factors.{cut_then}
use Rattle.pst_operands.proofs.product.by_signed.Goals as goal

pub high_by_positive-requires-clause-low : goal.high_by_positive-requires-clause-low
high_by_positive-requires-clause-low c = (c.is_positive.ensures c.if-is_positive.true).0

pub returns-then-is_positive : goal.returns-then-is_positive
returns-then-is_positive c = cut_then product_of c.args.span c.args.factor c.args.wanted c.low_by_positive-low.result c.high_by_positive.result c.low_by_positive-low.ensures c.high_by_positive.ensures

pub returns-then-is_negative : goal.returns-then-is_negative
returns-then-is_negative c = cut_then product_of c.args.span c.args.factor c.args.wanted c.low_by_negative-low.result c.high_by_negative.result c.low_by_negative-low.ensures c.high_by_negative.ensures
