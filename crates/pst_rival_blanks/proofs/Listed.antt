-- The blanks for the instances of the claims that are listed.
use Rattle.std.proofs.Common.{◌≡◌, ℕ, ◌+◌, List, [], ◌∷◌, ◌++◌, length, map, Some, refl, ap, subst}
use Rattle.std.specs.Prelude.{slice_get}
use Rattle.std.specs.List.{enumerate_from, range_with_len}
use Rattle.pst_model.specs.declared.action.Claim.{Claim}
use Rattle.pst_model.specs.ModelTree.{ModelTree}
use Rattle.pst_scen.specs.declared.act.Act.{Act}
use Rattle.pst_scen.specs.declared.scenario.Scenario.{Scenario}
use Rattle.pst_legal.specs.Types.{type_of}
use Rattle.pst_legal.specs.Blanks.{Blank, Instance, claims_of, instance_blanks, claim_blanks, value_blanks}
use Rattle.pst_few_places.specs.Fillings.{all_blanks}
use Rattle.pst_built.proofs.Lists.{get_mapped}
use Rattle.pst_claim_rivals.specs.declared.claims.OpenClaim.{OpenClaim}
use Rattle.pst_claim_rivals.specs.Claims.{open_claim, claims_in, open_claims}
use Rattle.pst_claim_rivals.proofs.Lists.{map_flat, get_front}

abbrev pub blank_for : OpenClaim → Blank
blank_for x = Instance x.act x.claim

instances : (m : ModelTree) (a : ℕ) (act : Act) (n : ℕ) (claims : List Claim) → map blank_for (map (open_claim m a act) (enumerate_from n claims)) ≡ map (Instance a) (range_with_len n (length claims))
instances m a act n [] = refl
instances m a act n (claim ∷ more) = ap (λ l. Instance a n ∷ l) (instances m a act (n + 1) more)

claims_are_blanks : (m : ModelTree) (acts : List Act) → map blank_for (open_claims m acts) ≡ claim_blanks m acts
claims_are_blanks m acts = map_flat blank_for (claims_in m) (instance_blanks m) (enumerate_from 0 acts) (λ e. instances m e.0 e.1 0 (claims_of (type_of m e.1.action)))

-- the claim of a number has the blank of that number
pub blank_at : (m : ModelTree) (u : Scenario) (i : ℕ) (x : OpenClaim) → slice_get (open_claims m u.actions) i ≡ Some x → slice_get (all_blanks m u) i ≡ Some (Instance x.act x.claim)
blank_at m u i x is =
    let here : slice_get (claim_blanks m u.actions) i ≡ Some (Instance x.act x.claim) =
    subst (λ bs. slice_get bs i ≡ Some (Instance x.act x.claim)) (claims_are_blanks m u.actions) (get_mapped blank_for (open_claims m u.actions) i x is) in
    get_front (claim_blanks m u.actions) (value_blanks m u.actions) i (Instance x.act x.claim) here
