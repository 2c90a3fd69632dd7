use Rattle.std.proofs.Common.{◌≡◌, ◌++◌, drop}
use Rattle.std.specs.Prelude.{flat_map}
use Rattle.std.specs.List.{enumerate_from}
use Rattle.pst_model.specs.ModelView.{view_model}
use Rattle.pst_claim_rivals.specs.Claims.{claims_in, open_claims}
use Rattle.pst_claim_rivals.proofs.claims.open_claims.Given as goal

abbrev pub invariant-loop-act : goal.invariant-loop-act
invariant-loop-act l = (l.number ≡ l.act-index) × (l.claims.items ++ flat_map (claims_in (view_model l.model)) (enumerate_from l.act-index (drop l.act-index l.acts)) ≡ open_claims (view_model l.model) l.acts)
