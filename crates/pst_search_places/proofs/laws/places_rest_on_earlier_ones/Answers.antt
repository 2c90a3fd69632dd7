use Rattle.pst_search_places.proofs.Facts.{places_rest}
use Rattle.pst_search_places.proofs.laws.places_rest_on_earlier_ones.Goals as goal

pub returns : goal.returns
returns c = places_rest c.places_go_on.ensures.options
