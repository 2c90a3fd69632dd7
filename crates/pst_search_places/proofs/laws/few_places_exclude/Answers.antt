use Rattle.pst_search_places.proofs.Few.{few_exclude}
use Rattle.pst_search_places.proofs.laws.few_places_exclude.Goals as goal

pub returns : goal.returns
returns c = few_exclude c.few_places_refuse.ensures
