-- The references and claims of a scenario's actions.
use Rattle.std.specs.Prelude.{◌≡◌, ℕ, Some, slice_get, Bool, ◌⊎◌}
use Rattle.pst_scen.specs.declared.act.Act.{Act}
use Rattle.pst_scen.specs.declared.act.Filled.{Filled}
use Rattle.pst_scen.specs.declared.act.Claimed.{Claimed}
use Rattle.pst_scen.specs.declared.act.Flow.{Flow}
use Rattle.pst_scen.specs.declared.act.Flow.TheVariants.{BufferIn, StreamIn, StreamOut, StateIn, StateOut}
use Rattle.pst_scen.specs.declared.act.Link.{Link}
use Rattle.pst_scen.specs.declared.act.Link.TheVariants as link
use Rattle.pst_scen.specs.declared.scenario.Scenario.{Scenario}

abbrev pub IsAct : Scenario → ℕ → Act → Type 0
IsAct s a act = slice_get s.actions a ≡ Some act

-- a has a reference of this kind that is served by the pool and has the link
pub record Refers (s : Scenario) (a : ℕ) (flow : Flow) (pool : ℕ) (to : Link) : Type 0 where
  pub act : Act
  pub reference : ℕ
  pub filled : Filled
  pub is_act : IsAct s a act
  pub is : slice_get act.references reference ≡ Some filled
  pub of_flow : filled.flow ≡ flow
  pub of_pool : filled.pool ≡ pool
  pub linked : filled.link ≡ to

-- a produces a buffer that b consumes
pub record Feeds (s : Scenario) (a b : ℕ) : Type 0 where
  pub pool : ℕ
  pub output : ℕ
  pub input : Refers s b BufferIn pool (link.Act a output)

-- a stream goes from one to the other, as the one or the other names it
pub data Streams (s : Scenario) (a b : ℕ) : Type 0 where
  FromFirst : (pool reference : ℕ) (flow : Flow) → (flow ≡ StreamIn) ⊎ (flow ≡ StreamOut) → Refers s a flow pool (link.Act b reference) → Streams s a b
  FromSecond : (pool reference : ℕ) (flow : Flow) → (flow ≡ StreamIn) ⊎ (flow ≡ StreamOut) → Refers s b flow pool (link.Act a reference) → Streams s a b

-- a reads an object of the state pool, which the link names as its source
abbrev pub Reads : Scenario → ℕ → ℕ → Link → Type 0
Reads s a pool source = Refers s a StateIn pool source

-- a writes an object of the state pool; the link names the previous writer
abbrev pub Writes : Scenario → ℕ → ℕ → Link → Type 0
Writes s a pool previous = Refers s a StateOut pool previous

-- the link leads to this action
abbrev pub LeadsTo : Link → ℕ → Type 0
LeadsTo to a = (reference : ℕ) × (to ≡ link.Act a reference)

-- the claim of that number of a
pub record IsClaim (s : Scenario) (a claim : ℕ) (claimed : Claimed) : Type 0 where
  pub act : Act
  pub is_act : IsAct s a act
  pub is : slice_get act.claims claim ≡ Some claimed

-- a claims an instance of a resource pool, by lock or to share it
pub record Claims (s : Scenario) (a pool instance : ℕ) (lock : Bool) : Type 0 where
  pub claim : ℕ
  pub claimed : Claimed
  pub is : IsClaim s a claim claimed
  pub of_pool : claimed.pool ≡ pool
  pub of_instance : claimed.instance ≡ instance
  pub by_lock : claimed.lock ≡ lock
