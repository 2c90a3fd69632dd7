use Rattle.pst_few_places.proofs.Few.{refuse}
use Rattle.pst_few_places.proofs.laws.few_places_refuse.Goals as goal

pub returns : goal.returns
returns c = refuse c.legal_is_unrefused.ensures
