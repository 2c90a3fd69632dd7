use Rattle.pst_set_meaning.proofs.Sets.{set_means}
use Rattle.pst_set_meaning.proofs.laws.sets_mean.Goals as goal

pub returns : goal.returns
returns c = λ f s setting set. set_means c.rewritings_mean.ensures c.rewriting_keeps_values.ensures f s setting set
