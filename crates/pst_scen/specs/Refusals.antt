-- Why a scenario has no plan.
use Rattle.std.specs.Prelude.{◌≡◌, ◌≤◌, ◌<◌, ◌⊎◌, ℕ, length}
use Rattle.pst_scen.specs.declared.scenario.Scenario.{Scenario}
use Rattle.pst_scen.specs.Order.{Together, Must}
use Rattle.pst_scen.specs.Conflicts.{Conflict}
use Rattle.pst_scen.specs.Plans.{ClashesAlone, Contend, StandParallel}

-- the action must come before itself
pub record IsOnCycle (s : Scenario) (a : ℕ) : Type 0 where
  pub below : a < length s.actions
  pub must : Must s a a

-- two members of one group conflict, or two claims of one action do
pub data GroupClashes (s : Scenario) : ℕ → ℕ → Type 0 where
  Two : (a b : ℕ) → a < b → Together s a b → Conflict s a b → GroupClashes s a b
  One : (a : ℕ) → a < length s.actions → ClashesAlone s a → GroupClashes s a a

-- actions in different branches of one parallel block are ordered
pub record IsParallelOrdered (s : Scenario) (a b : ℕ) : Type 0 where
  pub order : a < b
  pub parallel : StandParallel s a b
  pub must : Must s a b ⊎ Must s b a

-- they claim one resource instance, and at least one by lock
pub record IsParallelClash (s : Scenario) (a b : ℕ) : Type 0 where
  pub order : a < b
  pub parallel : StandParallel s a b
  pub contend : Contend s a b

pub record IsLeast (P : ℕ → Type 0) (a : ℕ) : Type 0 where
  pub is : P a
  pub least : (b : ℕ) → P b → a ≤ b

-- the least pair: that of the least first action, and of these that of the least second
pub record IsLeastPair (P : ℕ → ℕ → Type 0) (a b : ℕ) : Type 0 where
  pub is : P a b
  pub least : (c d : ℕ) → P c d → (a < c) ⊎ ((a ≡ c) × (b ≤ d))

pub data Refusal : Type 0 where
  Cycle : (a : ℕ) → Refusal
  GroupClash : (a b : ℕ) → Refusal
  ParallelOrder : (a b : ℕ) → Refusal
  ParallelClash : (a b : ℕ) → Refusal

abbrev pub HasNoCycle : Scenario → Type 0
HasNoCycle s = (a : ℕ) → IsOnCycle s a → ⊥

abbrev pub HasNoGroupClash : Scenario → Type 0
HasNoGroupClash s = (a b : ℕ) → GroupClashes s a b → ⊥

abbrev pub HasNoParallelOrder : Scenario → Type 0
HasNoParallelOrder s = (a b : ℕ) → IsParallelOrdered s a b → ⊥

abbrev pub HasNoParallelClash : Scenario → Type 0
HasNoParallelClash s = (a b : ℕ) → IsParallelClash s a b → ⊥

-- the first reason, in the order of the four, with its least action or pair
abbrev pub IsRefused : Scenario → Refusal → Type 0
IsRefused s (Cycle a) = IsLeast (IsOnCycle s) a
IsRefused s (GroupClash a b) = HasNoCycle s × IsLeastPair (GroupClashes s) a b
IsRefused s (ParallelOrder a b) = HasNoCycle s × HasNoGroupClash s × IsLeastPair (IsParallelOrdered s) a b
IsRefused s (ParallelClash a b) = HasNoCycle s × HasNoGroupClash s × HasNoParallelOrder s × IsLeastPair (IsParallelClash s) a b

-- there is no reason
pub record IsUnrefused (s : Scenario) : Type 0 where
  pub no_cycle : HasNoCycle s
  pub no_group_clash : HasNoGroupClash s
  pub no_parallel_order : HasNoParallelOrder s
  pub no_parallel_clash : HasNoParallelClash s
