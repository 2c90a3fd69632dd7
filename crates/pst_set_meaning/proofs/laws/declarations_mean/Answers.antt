use Rattle.pst_set_meaning.proofs.Sets.{declaration_means}
use Rattle.pst_set_meaning.proofs.laws.declarations_mean.Goals as goal

pub returns : goal.returns
returns c = λ f s setting declaration. declaration_means c.rewritings_mean.ensures c.rewriting_keeps_values.ensures f s setting declaration
