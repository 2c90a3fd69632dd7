use Rattle.std.proofs.Common.{◌≡◌, ◌++◌, drop}
use Rattle.std.specs.Prelude.{flat_map}
use Rattle.std.specs.List.{enumerate_from}
use Rattle.pst_model.specs.ModelView.{view_model}
use Rattle.pst_blanks.specs.Blanks.{first_places}
use Rattle.pst_blanks.proofs.listing.add_firsts.Given as goal

abbrev pub invariant-loop-pool : goal.invariant-loop-pool
invariant-loop-pool l = (l.number ≡ l.pool-index) × (l.places.items ++ flat_map (first_places (view_model l.model)) (enumerate_from l.pool-index (drop l.pool-index l.pools)) ≡ l.initial.places.items ++ flat_map (first_places (view_model l.model)) (enumerate_from 0 l.pools))
