-- Lists of the writes of state pools, and the pairs of readers with the writes that replace what they read.
use Rattle.std.specs.Prelude.{◌≡◌, ◌<◌, ℕ, List, length, Some, slice_get}
use Rattle.pst_scen.specs.declared.act.Act.{Act}
use Rattle.pst_scen.specs.declared.act.Filled.{Filled}
use Rattle.pst_scen.specs.declared.act.Flow.TheVariants.{StateIn, StateOut}
use Rattle.pst_scen.specs.declared.scenario.Scenario.{Scenario}
use Rattle.pst_scen.specs.Flows.{IsAct}
use Rattle.pst_square.specs.Squares.{IsOnly}
use Rattle.pst_graph.specs.declared.writes.Write.{Write}
use Rattle.pst_graph.specs.Listed.{IsReplacing}
use Rattle.pst_graph.specs.Uses.{Listed}

-- the write is the reference's by the action
pub record IsWrite (filled : Filled) (a : ℕ) (write : Write) : Type 0 where
  pub act : write.act ≡ a
  pub pool : write.pool ≡ filled.pool
  pub replaced : write.replaced ≡ filled.link

-- the write is by the action
abbrev pub IsWriteBy : ℕ → Write → Type 0
IsWriteBy a write = write.act ≡ a

-- the writes that these references are stand in the list
abbrev pub HasWrites : List Write → List Filled → ℕ → ℕ → Type 0
HasWrites writes references a to = (reference : ℕ) (filled : Filled) → reference < to → slice_get references reference ≡ Some filled → filled.flow ≡ StateOut → Listed writes (IsWrite filled a)

-- each write is by an action of the scenario
abbrev pub AreWritesInside : Scenario → List Write → Type 0
AreWritesInside s writes = (i : ℕ) (write : Write) → slice_get writes i ≡ Some write → write.act < length s.actions

-- all writes of the actions before the given one are in the list, and each is by an action of the scenario
pub record ListsWrites (s : Scenario) (writes : List Write) (to : ℕ) : Type 0 where
  pub inside : AreWritesInside s writes
  pub all : (a reference : ℕ) (act : Act) (filled : Filled) → a < to → IsAct s a act → slice_get act.references reference ≡ Some filled → filled.flow ≡ StateOut → Listed writes (IsWrite filled a)

-- the pair is of the action and the writer, which replaces what the action reads, by the write of what the reference names
pub record IsMatching (s : Scenario) (filled : Filled) (a : ℕ) (write : Write) (c d : ℕ) : Type 0 where
  pub pool : write.pool ≡ filled.pool
  pub link : write.replaced ≡ filled.link
  pub only : IsOnly (IsReplacing s) a write.act c d

-- the same for the write at that place, and for some write
pub record IsMatchingAt (s : Scenario) (filled : Filled) (a : ℕ) (writes : List Write) (place c d : ℕ) : Type 0 where
  pub write : Write
  pub is : slice_get writes place ≡ Some write
  pub matching : IsMatching s filled a write c d

pub record IsMatchingIn (s : Scenario) (filled : Filled) (a : ℕ) (writes : List Write) (c d : ℕ) : Type 0 where
  pub place : ℕ
  pub at : IsMatchingAt s filled a writes place c d

-- the same where the reference reads a state pool
pub record ReadsMatching (s : Scenario) (a : ℕ) (writes : List Write) (filled : Filled) (c d : ℕ) : Type 0 where
  pub of_flow : filled.flow ≡ StateIn
  pub matching : IsMatchingIn s filled a writes c d

-- the same for the reference at that place, and for some reference
pub record ReadsMatchingAt (s : Scenario) (a : ℕ) (writes : List Write) (references : List Filled) (place c d : ℕ) : Type 0 where
  pub filled : Filled
  pub is : slice_get references place ≡ Some filled
  pub reads : ReadsMatching s a writes filled c d

pub record ReadsMatchingIn (s : Scenario) (a : ℕ) (writes : List Write) (references : List Filled) (c d : ℕ) : Type 0 where
  pub place : ℕ
  pub at : ReadsMatchingAt s a writes references place c d
