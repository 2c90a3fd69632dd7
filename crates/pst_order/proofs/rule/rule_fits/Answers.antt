use Rattle.pst_order.proofs.Laws.{fits, is_few}
use Rattle.pst_order.proofs.rule.rule_fits.Goals as goal

pub returns : goal.returns
returns c = record { fits = fits; few = is_few }
