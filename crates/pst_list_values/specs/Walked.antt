-- The walk through whole lists of choices, as the search over any walker sees it.
use Rattle.pst_model.specs.ModelView.{view_model}
use Rattle.pst_link_walk.specs.Walks.{Kept}
use Rattle.pst_search_loop.specs.Kept.{Kept as Walked}
use Rattle.pst_search_places.specs.Facts.{place_facts}

abbrev pub kept_of : Kept → Walked
kept_of k = record { model = view_model k.model; root = k.root; seed = k.seed; facts = place_facts (view_model k.model) k.root k.seed; level = k.level; choices = k.choices }
