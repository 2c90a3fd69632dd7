use Rattle.pst_expr.proofs.RangeLemmas as lemmas
use Rattle.pst_expr.proofs.laws.values_are_in_range.Goals as goal

pub returns : goal.returns
returns c = lemmas.values_are_in_range c.bits_act_apart.ensures
