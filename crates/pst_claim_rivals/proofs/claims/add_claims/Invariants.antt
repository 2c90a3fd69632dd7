use Rattle.std.proofs.Common.{◌≡◌, ◌++◌, drop, map}
use Rattle.std.specs.List.{enumerate_from}
use Rattle.pst_model.specs.ModelView.{view_model}
use Rattle.pst_claim_rivals.specs.Claims.{open_claim}
use Rattle.pst_claim_rivals.proofs.claims.add_claims.Given as goal

abbrev pub invariant-loop-kind : goal.invariant-loop-kind
invariant-loop-kind l = (l.claim ≡ l.kind-index) × (l.claims.items ++ map (open_claim (view_model l.model) l.number l.act) (enumerate_from l.kind-index (drop l.kind-index l.kinds)) ≡ l.initial.claims.items ++ map (open_claim (view_model l.model) l.number l.act) (enumerate_from 0 l.kinds))
