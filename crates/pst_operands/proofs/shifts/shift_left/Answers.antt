use Rattle.pst_operands.proofs.Shifted.{left_counted, in_counts}
use Rattle.pst_operands.proofs.shifts.shift_left.Goals as goal

pub returns : goal.returns
returns c =
    record {
      left = λ x y z h k l e. let n = left_counted x y z e in c.shifted_to_left.ensures x y z h (c.common-right.ensures y k (in_counts y n.count n.is n.few)) l e;
      right = λ x y z h k l e. let n = left_counted x y z e in c.common-right.ensures y k (in_counts y n.count n.is n.few);
    }
