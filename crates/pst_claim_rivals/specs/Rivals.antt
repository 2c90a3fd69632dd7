-- Claims that can't claim one instance.
use Rattle.std.specs.Prelude.{◌≡◌, ◌≢◌, ◌⊎◌, ◌<◌, ℕ, List, length, get_or, true, Some, slice_get, Contains}
use Rattle.pst_model.specs.ModelTree.{ModelTree}
use Rattle.pst_scen.specs.declared.act.Act.{Act}
use Rattle.pst_scen.specs.declared.act.Claimed.{Claimed}
use Rattle.pst_scen.specs.declared.scenario.Scenario.{Scenario}
use Rattle.pst_scen.specs.Laws.{IsPreorder, HasOneLeafEach}
use Rattle.pst_scen.specs.Flows.{IsClaim}
use Rattle.pst_scen.specs.Order.{Together}
use Rattle.pst_scen.specs.Plans.{StandParallel}
use Rattle.pst_scen.specs.Refusals.{IsUnrefused}
use Rattle.pst_claim_rivals.specs.declared.claims.OpenClaim.{OpenClaim}
use Rattle.pst_claim_rivals.specs.Claims.{open_claims, IsClaimed}

-- both are on one pool
pub record AreOnPool (x y : OpenClaim) : Type 0 where
  pub pool : ℕ
  pub first : x.pool ≡ Some pool
  pub second : y.pool ≡ Some pool

-- Both are of one action, of two that start together, or of two in different branches of one parallel block.
pub data Meet (s : Scenario) (x y : OpenClaim) : Type 0 where
  Alone : x.act ≡ y.act → x.claim ≢ y.claim → Meet s x y
  Grouped : x.act ≢ y.act → Together s x.act y.act → Meet s x y
  Beside : x.act ≢ y.act → StandParallel s x.act y.act → Meet s x y

-- they are on one pool, at least one by lock, and meet
pub record AreRivals (s : Scenario) (x y : OpenClaim) : Type 0 where
  pub on_pool : AreOnPool x y
  pub by_lock : (x.lock ≡ true) ⊎ (y.lock ≡ true)
  pub meet : Meet s x y

-- in the scenario the claim claims the instance of that number
pub record ClaimsInstance (t : Scenario) (x : OpenClaim) (number : ℕ) : Type 0 where
  pub claimed : Claimed
  pub is : IsClaim t x.act x.claim claimed
  pub of_pool : x.pool ≡ Some claimed.pool
  pub by_lock : claimed.lock ≡ x.lock
  pub instance : claimed.instance ≡ number

-- what is known of a scenario where its claims are compared: actions of one number start together
pub record IsKnown (s : Scenario) (groups : List ℕ) : Type 0 where
  pub preorder : IsPreorder s.nodes
  pub one_leaf : HasOneLeafEach s.nodes
  pub together : (a b : ℕ) → a < length groups → b < length groups → get_or groups a 0 ≡ get_or groups b 0 → Together s a b

-- ---- laws

-- In a scenario that a plan doesn't refuse rivals don't claim one instance.
abbrev pub RivalsDiffer : Type 0
RivalsDiffer = (t : Scenario) (x y : OpenClaim) (number : ℕ) → IsUnrefused t → AreRivals t x y → ClaimsInstance t x number → ClaimsInstance t y number → ⊥

-- Each claim that is listed is one of its action.
abbrev pub ClaimsAreTheirs : Type 0
ClaimsAreTheirs = (m : ModelTree) (acts : List Act) (i : ℕ) (x : OpenClaim) → slice_get (open_claims m acts) i ≡ Some x → IsClaimed m acts x

-- No claim is listed twice.
abbrev pub ClaimsAreListedOnce : Type 0
ClaimsAreListedOnce =
    (m : ModelTree) (acts : List Act) (i j : ℕ) (x y : OpenClaim) → i < j → slice_get (open_claims m acts) i ≡ Some x → slice_get (open_claims m acts) j ≡ Some y → x.act ≡ y.act → x.claim ≢ y.claim
