use Rattle.std.proofs.Common.{◌≡◌, [], refl, sym, subst}
use Rattle.pst_model.specs.ModelView.{view_model}
use Rattle.pst_model.specs.Sound.{IsSound}
use Rattle.pst_link_walk.specs.Walks.{Kept}
use Rattle.pst_list_walk.specs.Made.{kept_at}
use Rattle.pst_search.specs.Searches.{Searches}
use Rattle.pst_search.proofs.first.search.Goals as goal

pub search_by-requires-clause-begun : goal.search_by-requires-clause-begun
search_by-requires-clause-begun c = subst (λ (k : Kept). k ≡ kept_at k.model k.root k.seed 0 []) (sym c.in_ok-reading.ensures) refl

pub search_by-requires-clause-sound : goal.search_by-requires-clause-sound
search_by-requires-clause-sound c = subst (λ (k : Kept). IsSound (view_model k.model)) (sym c.in_ok-reading.ensures) c.requires.sound

pub returns : goal.returns
returns c = subst (λ (k : Kept). Searches (view_model k.model) k.root k.seed c.args.infer c.args.budget c.search_by.result) c.in_ok-reading.ensures c.search_by.ensures
