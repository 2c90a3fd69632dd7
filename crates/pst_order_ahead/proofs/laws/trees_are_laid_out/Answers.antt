use Rattle.pst_order_ahead.proofs.Laid.{laid_out}
use Rattle.pst_order_ahead.proofs.laws.trees_are_laid_out.Goals as goal

pub returns : goal.returns
returns c = laid_out
