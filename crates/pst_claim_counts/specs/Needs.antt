-- How many claims are rivals of one another.
use Rattle.std.specs.Prelude.{◌≡◌, ◌≢◌, ◌<◌, ◌≤◌, ℕ, List, length, map, get_or, All, Bool, true, false, Option, Some, slice_get}
use Rattle.pst_scen.specs.declared.tree.Node.{Node}
use Rattle.pst_scen.specs.declared.scenario.Scenario.{Scenario}
use Rattle.pst_scen.specs.Tree.{IsChild, Contains-act}
use Rattle.pst_scen.specs.Order.{Together}
use Rattle.pst_nodes.specs.Over.{IsLeafOf, IsParallelBlock}
use Rattle.pst_claim_rivals.specs.declared.claims.OpenClaim.{OpenClaim}
use Rattle.pst_claim_rivals.specs.Rivals.{AreRivals}
use Rattle.pst_claim_counts.specs.declared.needs.Need.{Need}
use Rattle.pst_claim_counts.specs.Counts.{AreAllRivals}

-- At least so many claims with a property, of which each two are rivals; where that is asked for they are locks alone.
pub record AreNeeded (s : Scenario) (P : OpenClaim → Type 0) (alone : Bool) (count : ℕ) : Type 0 where
  pub claims : List OpenClaim
  pub each : All P claims
  pub rivals : AreAllRivals s claims
  pub locks : alone ≡ true → All (λ (x : OpenClaim). x.lock ≡ true) claims
  pub many : count ≤ length claims

-- there are so many
pub record IsNeed (s : Scenario) (P : OpenClaim → Type 0) (need : Need) : Type 0 where
  pub locks : AreNeeded s P true need.locks
  pub all : AreNeeded s P false need.all

abbrev pub no_need : Need
no_need = record { locks = 0; all = 0 }

-- the need of one claim
abbrev pub IsNeedOf : Bool → Need → Type 0
IsNeedOf true need = need ≡ record { locks = 1; all = 1 }
IsNeedOf false need = need ≡ record { locks = 0; all = 1 }

-- each of a list of needs is one of claims with a property by its number
abbrev pub AreNeeds : Scenario → (ℕ → OpenClaim → Type 0) → List Need → Type 0
AreNeeds s P needs = (n : ℕ) → n < length needs → IsNeed s (P n) (get_or needs n no_need)

-- no claim is listed twice
abbrev pub AreOrdered : List OpenClaim → Type 0
AreOrdered claims = (i j : ℕ) (x y : OpenClaim) → i < j → slice_get claims i ≡ Some x → slice_get claims j ≡ Some y → x.act ≡ y.act → x.claim ≢ y.claim

-- the pool serves the claim, and it is one of the first so many
pub record IsListed (claims : List OpenClaim) (pool to : ℕ) (x : OpenClaim) : Type 0 where
  pub on : x.pool ≡ Some pool
  pub place : ℕ
  pub early : place < to
  pub is : slice_get claims place ≡ Some x

-- ---- slots

-- two actions of one slot start together
abbrev pub SlotsMeet : Scenario → List (Option ℕ) → Type 0
SlotsMeet s slots = (a b n : ℕ) → slice_get slots a ≡ Some (Some n) → slice_get slots b ≡ Some (Some n) → a ≢ b → Together s a b

-- the action of the claim has the slot
pub record IsOwn (slots : List (Option ℕ)) (claims : List OpenClaim) (pool to n : ℕ) (x : OpenClaim) : Type 0 where
  pub listed : IsListed claims pool to x
  pub slot : slice_get slots x.act ≡ Some (Some n)

-- the slot of an action is its leaf
abbrev pub AreLeafSlots : List Node → List (Option ℕ) → Type 0
AreLeafSlots nodes slots = (a n : ℕ) → slice_get slots a ≡ Some (Some n) → IsLeafOf nodes a n

-- the slot of an action is the number of its group
abbrev pub AreGroupSlots : List ℕ → List (Option ℕ) → Type 0
AreGroupSlots groups slots = slots ≡ map Some groups

-- ---- nodes

-- the action stands in a branch of the block, from that one on
pub record IsInBranch (nodes : List Node) (from block act : ℕ) : Type 0 where
  pub branch : ℕ
  pub child : IsChild nodes branch block
  pub late : from ≤ branch
  pub inside : Contains-act nodes branch act

-- the claim's action stands below the node, and where that is a parallel block, in a branch from that one on
pub record IsBelow (nodes : List Node) (claims : List OpenClaim) (pool from n : ℕ) (x : OpenClaim) : Type 0 where
  pub listed : IsListed claims pool (length claims) x
  pub inside : Contains-act nodes n x.act
  pub branch : IsParallelBlock nodes n → IsInBranch nodes from n x.act

-- ---- more than so many

-- more claims on the pool than that are rivals of one another
pub record AreMore (s : Scenario) (claims : List OpenClaim) (pool size : ℕ) : Type 0 where
  pub count : ℕ
  pub needed : AreNeeded s (IsListed claims pool (length claims)) false count
  pub more : size < count
