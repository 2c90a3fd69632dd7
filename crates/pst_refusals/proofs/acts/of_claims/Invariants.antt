use Rattle.std.proofs.Common.{◌≡◌, drop}
use Rattle.std.specs.Prelude.{flat_map}
use Rattle.std.specs.List.{enumerate_from, list_any}
use Rattle.pst_model.specs.ModelView.{view_model}
use Rattle.pst_slots.specs.Listed.{of_claim}
use Rattle.pst_refusals.specs.Failing.{fails}
use Rattle.pst_refusals.proofs.acts.of_claims.Given as goal

abbrev pub invariant-loop-claim : goal.invariant-loop-claim
invariant-loop-claim l = (l.place ≡ l.claim-index) × (list_any (fails l.by_values) (flat_map (of_claim (view_model l.scene.model.now) l.number l.act) (enumerate_from l.claim-index (drop l.claim-index l.claims))) ≡ list_any (fails l.by_values) (flat_map (of_claim (view_model l.scene.model.now) l.number l.act) (enumerate_from 0 l.claims)))
