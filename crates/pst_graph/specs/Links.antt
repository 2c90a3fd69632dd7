-- References and claims of one action or two, by their lists.
use Rattle.std.specs.Prelude.{◌≡◌, ◌≢◌, ◌⊎◌, ℕ, List, Some, slice_get, true}
use Rattle.pst_scen.specs.declared.act.Filled.{Filled}
use Rattle.pst_scen.specs.declared.act.Claimed.{Claimed}
use Rattle.pst_scen.specs.declared.act.Flow.{Flow}
use Rattle.pst_scen.specs.declared.act.Flow.TheVariants.{StateIn, StateOut}
use Rattle.pst_scen.specs.Flows.{LeadsTo}

-- a reference of this kind leads to the action
pub record HasLink (references : List Filled) (flow : Flow) (act : ℕ) : Type 0 where
  pub reference : ℕ
  pub filled : Filled
  pub is : slice_get references reference ≡ Some filled
  pub of_flow : filled.flow ≡ flow
  pub leads : LeadsTo filled.link act

-- a reference uses the state pool
pub record HasUse (references : List Filled) (pool : ℕ) : Type 0 where
  pub reference : ℕ
  pub filled : Filled
  pub is : slice_get references reference ≡ Some filled
  pub of_flow : (filled.flow ≡ StateIn) ⊎ (filled.flow ≡ StateOut)
  pub of_pool : filled.pool ≡ pool

-- the reference writes a state pool that one of the others uses
pub record WritesInto (others : List Filled) (filled : Filled) : Type 0 where
  pub of_flow : filled.flow ≡ StateOut
  pub used : HasUse others filled.pool

-- one of the first references writes a state pool that one of the others uses
pub record WritesUsed (own others : List Filled) : Type 0 where
  pub reference : ℕ
  pub filled : Filled
  pub is : slice_get own reference ≡ Some filled
  pub writes : WritesInto others filled

-- a reference replaces the object that the given one reads
pub record Replaces (references : List Filled) (reader : Filled) : Type 0 where
  pub reference : ℕ
  pub filled : Filled
  pub is : slice_get references reference ≡ Some filled
  pub of_flow : filled.flow ≡ StateOut
  pub same_pool : filled.pool ≡ reader.pool
  pub same_link : filled.link ≡ reader.link

-- the reference reads an object that one of the others replaces
pub record IsReplaced (others : List Filled) (filled : Filled) : Type 0 where
  pub of_flow : filled.flow ≡ StateIn
  pub replaced : Replaces others filled

-- one of the first references reads an object that one of the others replaces
pub record ReadsReplaced (own others : List Filled) : Type 0 where
  pub reference : ℕ
  pub filled : Filled
  pub is : slice_get own reference ≡ Some filled
  pub reads : IsReplaced others filled

-- both claims are of one instance, and at least one by lock
pub record AreDisputed (one other : Claimed) : Type 0 where
  pub same_pool : one.pool ≡ other.pool
  pub same_instance : one.instance ≡ other.instance
  pub by_lock : (one.lock ≡ true) ⊎ (other.lock ≡ true)

-- a claim disputes the given one
pub record Disputes (claims : List Claimed) (one : Claimed) : Type 0 where
  pub claim : ℕ
  pub claimed : Claimed
  pub is : slice_get claims claim ≡ Some claimed
  pub disputed : AreDisputed one claimed

-- one of the first claims is disputed by one of the others
pub record HasDispute (own others : List Claimed) : Type 0 where
  pub claim : ℕ
  pub claimed : Claimed
  pub is : slice_get own claim ≡ Some claimed
  pub disputed : Disputes others claimed

-- a claim of another place disputes the given one
pub record DisputesElsewhere (claims : List Claimed) (place : ℕ) (one : Claimed) : Type 0 where
  pub claim : ℕ
  pub claimed : Claimed
  pub different : place ≢ claim
  pub is : slice_get claims claim ≡ Some claimed
  pub disputed : AreDisputed one claimed

-- two of the claims dispute each other
pub record HasOwnDispute (claims : List Claimed) : Type 0 where
  pub claim : ℕ
  pub claimed : Claimed
  pub is : slice_get claims claim ≡ Some claimed
  pub disputed : DisputesElsewhere claims claim claimed
