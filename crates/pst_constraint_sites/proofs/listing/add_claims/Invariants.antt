use Rattle.std.proofs.Common.{◌≡◌, ◌++◌, drop, map}
use Rattle.std.specs.Prelude.{flat_map}
use Rattle.std.specs.List.{enumerate_from}
use Rattle.pst_model.specs.ModelView.{view_model}
use Rattle.pst_constraint_sites.specs.Groups.{claim_groups}
use Rattle.pst_constraint_sites.specs.Views.{view_group}
use Rattle.pst_constraint_sites.proofs.listing.add_claims.Given as goal

abbrev pub invariant-loop-claim : goal.invariant-loop-claim
invariant-loop-claim l = (l.number ≡ l.claim-index) × (map view_group l.groups.items ++ flat_map (claim_groups (view_model l.model) l.act) (enumerate_from l.claim-index (drop l.claim-index l.claims)) ≡ map view_group l.initial.groups.items ++ flat_map (claim_groups (view_model l.model) l.act) (enumerate_from 0 l.claims))
