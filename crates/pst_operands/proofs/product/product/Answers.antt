use Rattle.pst_num.specs.Arithmetic.{product_of}
use Rattle.pst_operands.proofs.Factors.{turned, product_turned}
use Rattle.pst_operands.proofs.product.product.Goals as goal

pub returns : goal.returns
returns c = record { left = c.factor.ensures; right = turned product_of c.args.spans.left c.args.spans.right c.args.wanted c.factor-2.result product_turned c.factor-2.ensures }
