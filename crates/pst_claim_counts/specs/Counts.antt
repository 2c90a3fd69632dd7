-- Claims that need more instances than their pool has.
use Rattle.std.specs.Prelude.{◌≡◌, ◌<◌, ℕ, List, [], ◌∷◌, length, All, Some, slice_get}
use Rattle.pst_model.specs.declared.model.Pool.{Pool}
use Rattle.pst_model.specs.ModelTree.{ModelTree}
use Rattle.pst_scen.specs.declared.scenario.Scenario.{Scenario}
use Rattle.pst_legal.specs.ValueReading.{read}
use Rattle.pst_built.specs.SoFar.{HasRead}
use Rattle.pst_built.specs.OrderStaysLaws.{IsBarren}
use Rattle.pst_claim_rivals.specs.declared.claims.OpenClaim.{OpenClaim}
use Rattle.pst_claim_rivals.specs.Claims.{IsClaimed}
use Rattle.pst_claim_rivals.specs.Rivals.{AreRivals}

-- a claim of an action that the pool serves
pub record IsClaimOn (m : ModelTree) (s : Scenario) (pool : ℕ) (x : OpenClaim) : Type 0 where
  pub claimed : IsClaimed m s.actions x
  pub on : x.pool ≡ Some pool

-- each is a rival of all later ones
abbrev pub AreAllRivals : Scenario → List OpenClaim → Type 0
AreAllRivals s [] = Unit {0}
AreAllRivals s (x ∷ xs) = All (AreRivals s x) xs × AreAllRivals s xs

-- some claims on a pool, of which each two are rivals, are more than the pool has instances
pub record AreTooMany (m : ModelTree) (s : Scenario) : Type 0 where
  pub pool : ℕ
  pub kept : Pool
  pub is : slice_get m.pools pool ≡ Some kept
  pub claims : List OpenClaim
  pub on_pool : All (IsClaimOn m s pool) claims
  pub rivals : AreAllRivals s claims
  pub many : kept.size < length claims

-- the pool of that number has so many instances
pub record HasSize (m : ModelTree) (pool size : ℕ) : Type 0 where
  pub kept : Pool
  pub is : slice_get m.pools pool ≡ Some kept
  pub many : kept.size ≡ size

-- Where claims are too many, no longer list reads a legal scenario.
abbrev pub TooManyClaimsRefuseLists : Type 0
TooManyClaimsRefuseLists =
    (m : ModelTree) (root seed level : ℕ) (choices : List ℕ) (s : Scenario) → HasRead (read m root seed level choices) s → AreTooMany m s → IsBarren m root seed level choices
