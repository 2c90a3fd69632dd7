-- The claims that are listed.
use Rattle.std.proofs.Common.{ℕ, List, refl, subst}
use Rattle.std.specs.List.{enumerate_from}
use Rattle.pst_model.specs.declared.action.Claim.{Claim}
use Rattle.pst_model.specs.ModelTree.{ModelTree}
use Rattle.pst_scen.specs.declared.act.Act.{Act}
use Rattle.pst_legal.specs.Types.{type_of}
use Rattle.pst_legal.specs.Blanks.{claims_of}
use Rattle.pst_built.proofs.Members.{in_get, in_map, in_flat_map, in_numbered}
use Rattle.pst_claim_rivals.specs.declared.claims.OpenClaim.{OpenClaim}
use Rattle.pst_claim_rivals.specs.Claims.{open_claim, claims_in, open_claims, IsClaimed}
use Rattle.pst_claim_rivals.specs.Rivals.{ClaimsAreTheirs}

pub theirs : ClaimsAreTheirs
theirs m acts i x is =
    let e = in_flat_map (claims_in m) (enumerate_from 0 acts) x (in_get (open_claims m acts) i x is) in
    let a : ℕ × Act = e.0 in
    let claims : List Claim = claims_of (type_of m a.1.action) in
    let f = in_map (open_claim m a.0 a.1) (enumerate_from 0 claims) x e.2 in
    let own : IsClaimed m acts (open_claim m a.0 a.1 f.0) = record {
      act = a.1;
      is_act = in_numbered acts a e.1;
      claim = f.0.1;
      is_claim = in_numbered claims f.0 f.1;
      by_lock = refl;
      served = refl;
    } in
    subst (IsClaimed m acts) f.2 own
