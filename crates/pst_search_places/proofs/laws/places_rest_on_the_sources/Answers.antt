use Rattle.pst_search_places.proofs.Few.{rest_on_sources}
use Rattle.pst_search_places.proofs.laws.places_rest_on_the_sources.Goals as goal

pub returns : goal.returns
returns c = rest_on_sources
