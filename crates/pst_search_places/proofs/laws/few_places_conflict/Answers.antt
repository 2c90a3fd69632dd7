use Rattle.pst_search_places.proofs.Few.{few_conflict}
use Rattle.pst_search_places.proofs.laws.few_places_conflict.Goals as goal

pub returns : goal.returns
returns c = few_conflict c.few_places_refuse.ensures
