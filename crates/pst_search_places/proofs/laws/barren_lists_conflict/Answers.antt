use Rattle.pst_search_places.proofs.Facts.{barren_conflicts}
use Rattle.pst_search_places.proofs.laws.barren_lists_conflict.Goals as goal

pub returns : goal.returns
returns c = barren_conflicts
