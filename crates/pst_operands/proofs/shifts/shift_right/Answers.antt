use Rattle.pst_operands.proofs.Shifted.{right_counted, in_counts}
use Rattle.pst_operands.proofs.shifts.shift_right.Goals as goal

pub returns : goal.returns
returns c =
    record {
      left = λ x y z h k l e. let n = right_counted x y z e in c.shifted_to_right.ensures x y z h (c.common-right.ensures y k (in_counts y n.count n.is n.few)) l e;
      right = λ x y z h k l e. let n = right_counted x y z e in c.common-right.ensures y k (in_counts y n.count n.is n.few);
    }
