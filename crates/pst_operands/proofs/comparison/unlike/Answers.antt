use Rattle.std.proofs.Common.{sym}
use Rattle.pst_operands.proofs.comparison.unlike.Goals as goal

pub returns : goal.returns
returns c x y h k n =
    (c.apart.ensures x y h k n, c.apart-2.ensures y x k h (λ e. n (sym e)))
