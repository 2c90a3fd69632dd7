use Rattle.pst_search_places.proofs.Facts.{place_facts_hold}
use Rattle.pst_search_places.proofs.laws.place_facts_hold.Goals as goal

pub returns : goal.returns
returns c = place_facts_hold
