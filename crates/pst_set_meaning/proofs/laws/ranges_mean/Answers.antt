use Rattle.pst_set_meaning.proofs.Ranges.{ranges_mean}
use Rattle.pst_set_meaning.proofs.laws.ranges_mean.Goals as goal

pub returns : goal.returns
returns c = λ f s setting x word opening close ranges v spans known are. ranges_mean c.rewritings_mean.ensures c.rewriting_keeps_values.ensures f s setting x word opening close ranges v spans known are
