use Rattle.pst_operands.proofs.Dividends.{some_divisor}
use Rattle.pst_operands.proofs.quotient.quotient.Goals as goal

pub returns : goal.returns
returns c =
    record {
      left = λ x y z h k l e. c.dividend.ensures x y z h (c.other_than-right.ensures y k (some_divisor x y z e)) l e;
      right = λ x y z h k l e. c.other_than-right.ensures y k (some_divisor x y z e);
    }
