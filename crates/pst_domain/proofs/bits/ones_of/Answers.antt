use Rattle.pst_domain.proofs.BitsCode.{zeros_of, nothing_above, ones_of_is}
use Rattle.pst_domain.proofs.bits.ones_of.Goals as goal

pub overflow_sub-result : goal.overflow_sub-result
overflow_sub-result c = zeros_of c.args.number c.leading_zeros.result c.ranges.number c.if-number-le0.false c.leading_zeros.ensures

pub returns-then-number-le0 : goal.returns-then-number-le0
returns-then-number-le0 c = nothing_above c.args.number c.ranges.number c.if-number-le0.true

pub returns-else-number-le0 : goal.returns-else-number-le0
returns-else-number-le0 c = ones_of_is c.args.number c.leading_zeros.result c.ranges.number c.if-number-le0.false c.leading_zeros.ensures
