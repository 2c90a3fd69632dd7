-- Which plan is a scenario's.
use Rattle.std.specs.Prelude.{◌≡◌, ◌≢◌, ◌≤◌, ◌<◌, ◌↔◌, ℕ, Bool, true, length, get_or, ◌⊎◌, List}
use Rattle.pst_scen.specs.declared.tree.Node.{Node}
use Rattle.pst_scen.specs.declared.tree.Fill.{Fill}
use Rattle.pst_scen.specs.declared.tree.Fill.TheVariants.{Compound, Leaf, Sequence, Parallel, Schedule, Joined, Select, Repeat, Turn, If, Match}
use Rattle.pst_scen.specs.declared.act.Claimed.{Claimed}
use Rattle.pst_scen.specs.declared.scenario.Scenario.{Scenario}
use Rattle.pst_scen.specs.declared.event.Event.{Event}
use Rattle.pst_scen.specs.Tree.{IsNode, IsChild, Contains-act}
use Rattle.pst_scen.specs.Flows.{IsClaim, Claims}
use Rattle.pst_scen.specs.Order.{Together, Must}
use Rattle.pst_scen.specs.Conflicts.{Conflict}
use Rattle.pst_scen.specs.Trace.{IsLegalTrace, IsWhole}
use Rattle.pst_scen.specs.Rows.{Has}
use Rattle.pst_scen.specs.Plan.{Entries}

-- two claims of a on one instance of one pool aren't both shares
pub record ClashesAlone (s : Scenario) (a : ℕ) : Type 0 where
  pub first : ℕ
  pub second : ℕ
  pub one : Claimed
  pub other : Claimed
  pub different : first ≢ second
  pub is_first : IsClaim s a first one
  pub is_second : IsClaim s a second other
  pub same_pool : one.pool ≡ other.pool
  pub same_instance : one.instance ≡ other.instance
  pub by_lock : (one.lock ≡ true) ⊎ (other.lock ≡ true)

-- both claim one instance of one resource pool, and at least one by lock
pub record Contend (s : Scenario) (a b : ℕ) : Type 0 where
  pub pool : ℕ
  pub instance : ℕ
  pub own : Bool
  pub other : Bool
  pub a_claims : Claims s a pool instance own
  pub b_claims : Claims s b pool instance other
  pub by_lock : (own ≡ true) ⊎ (other ≡ true)

-- a parallel block, with a join form or without
abbrev pub IsParallel : Fill → Type 0
IsParallel Parallel = Unit {0}
IsParallel (Joined parallel joined) = parallel ≡ true
IsParallel (Compound action instance fields) = ⊥
IsParallel (Leaf act) = ⊥
IsParallel Sequence = ⊥
IsParallel Schedule = ⊥
IsParallel (Select branch) = ⊥
IsParallel Repeat = ⊥
IsParallel (Turn index) = ⊥
IsParallel (If taken) = ⊥
IsParallel (Match arm) = ⊥

-- a and b stand in different branches of one parallel block
pub record StandParallel (s : Scenario) (a b : ℕ) : Type 0 where
  pub block : ℕ
  pub node : Node
  pub is : IsNode s.nodes block node
  pub parallel : IsParallel node.fill
  pub a_branch : ℕ
  pub b_branch : ℕ
  pub different : a_branch ≢ b_branch
  pub a_child : IsChild s.nodes a_branch block
  pub b_child : IsChild s.nodes b_branch block
  pub a_inside : Contains-act s.nodes a_branch a
  pub b_inside : Contains-act s.nodes b_branch b

-- no two actions in different branches of one parallel block are ordered, or claim one resource
-- instance otherwise than to share it
pub record KeepsParallel (s : Scenario) : Type 0 where
  pub unordered : (a b : ℕ) → StandParallel s a b → Must s a b → ⊥
  pub undisputed : (a b : ℕ) → StandParallel s a b → a ≢ b → Contend s a b → ⊥

-- a whole legal trace exists
pub record CanRun (s : Scenario) : Type 0 where
  pub lanes : ℕ
  pub trace : List Event
  pub legal : IsLegalTrace s lanes trace
  pub whole : IsWhole s trace

-- the least action of a's group
pub record IsGroupNumber (s : Scenario) (a group : ℕ) : Type 0 where
  pub member : Together s a group
  pub least : (b : ℕ) → Together s a b → group ≤ b

-- the groups, the order and the conflicts are the scenario's
pub record AreEntriesOf (s : Scenario) (p : Entries) : Type 0 where
  pub many : length p.groups ≡ length s.actions
  pub group : (a : ℕ) → a < length s.actions → IsGroupNumber s a (get_or p.groups a 0)
  pub must : (a b : ℕ) → a < length s.actions → b < length s.actions → Has p.must a b ↔ Must s a b
  pub conflict : (a b : ℕ) → a < length s.actions → b < length s.actions → Has p.conflict a b ↔ Conflict s a b

-- the plan of a scenario that can run
pub record IsPlanOf (s : Scenario) (p : Entries) : Type 0 where
  pub entries : AreEntriesOf s p
  pub parallel : KeepsParallel s
  pub alone : (a : ℕ) → a < length s.actions → ClashesAlone s a → ⊥
  pub runs : CanRun s
