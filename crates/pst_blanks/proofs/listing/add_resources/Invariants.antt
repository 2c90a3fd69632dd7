use Rattle.std.proofs.Common.{◌≡◌, ◌++◌, drop}
use Rattle.std.specs.Prelude.{flat_map}
use Rattle.std.specs.List.{enumerate_from}
use Rattle.pst_model.specs.ModelView.{view_model}
use Rattle.pst_blanks.specs.Blanks.{resource_places}
use Rattle.pst_blanks.proofs.listing.add_resources.Given as goal

abbrev pub invariant-loop-claim : goal.invariant-loop-claim
invariant-loop-claim l = (l.number ≡ l.claim-index) × (l.places.items ++ flat_map (resource_places (view_model l.model) l.act) (enumerate_from l.claim-index (drop l.claim-index l.claims)) ≡ l.initial.places.items ++ flat_map (resource_places (view_model l.model) l.act) (enumerate_from 0 l.claims))
