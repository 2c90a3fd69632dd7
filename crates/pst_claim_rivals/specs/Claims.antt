-- Claims of which the instance isn't known yet.
use Rattle.std.specs.Prelude.{◌≡◌, ℕ, List, map, Some, slice_get, flat_map}
use Rattle.std.specs.List.{enumerate_from}
use Rattle.pst_model.specs.declared.action.Claim.{Claim}
use Rattle.pst_model.specs.ModelTree.{ModelTree}
use Rattle.pst_scen.specs.declared.act.Act.{Act}
use Rattle.pst_legal.specs.Types.{type_of, served_claim}
use Rattle.pst_legal.specs.Blanks.{claims_of}
use Rattle.pst_claim_rivals.specs.declared.claims.OpenClaim.{OpenClaim}

-- the claim of that number of the action of that number
abbrev pub open_claim : ModelTree → ℕ → Act → ℕ × Claim → OpenClaim
open_claim m a act e = record { act = a; claim = e.0; pool = served_claim m act.action act.instance e.0; lock = e.1.lock }

abbrev pub claims_in : ModelTree → ℕ × Act → List OpenClaim
claims_in m e = map (open_claim m e.0 e.1) (enumerate_from 0 (claims_of (type_of m e.1.action)))

-- those of all actions, by action and claim
abbrev pub open_claims : ModelTree → List Act → List OpenClaim
open_claims m acts = flat_map (claims_in m) (enumerate_from 0 acts)

-- an action has the claim, by lock or to share, and that pool serves it
pub record IsClaimed (m : ModelTree) (acts : List Act) (x : OpenClaim) : Type 0 where
  pub act : Act
  pub is_act : slice_get acts x.act ≡ Some act
  pub claim : Claim
  pub is_claim : slice_get (claims_of (type_of m act.action)) x.claim ≡ Some claim
  pub by_lock : x.lock ≡ claim.lock
  pub served : x.pool ≡ served_claim m act.action act.instance x.claim
