-- Nodes that stand behind handles which inline constraints name, and the inline constraints that look behind these.
use Rattle.std.specs.Prelude.{◌≡◌, ◌⊎◌, ℕ, ◌<◌, ◌≤◌, List, [], length, Bool, true, false, ◌&&◌, nat_lt, nat_eq, Option, Some, None, slice_get}
use Rattle.std.specs.List.{list_any}
use Rattle.std.specs.Option.{unwrap_or}
use Rattle.pst_model.specs.ConstraintTree.{SlotTree, Through, Outer, ConstraintTree}
use Rattle.pst_model.specs.ActivityTree.{StepTree, Traverse, Sequence, Parallel, Schedule, Joined}
use Rattle.pst_model.specs.ModelTree.{ModelTree}
use Rattle.pst_scen.specs.declared.tree.Node.{Node}
use Rattle.pst_scen.specs.declared.tree.Fill.{Fill}
use Rattle.pst_scen.specs.declared.tree.Fill.TheVariants as fill
use Rattle.pst_scen.specs.declared.scenario.Scenario.{Scenario}
use Rattle.pst_slots.specs.Stated.{Stated, statement_of}
use Rattle.pst_slots.specs.Listed.{of_stated}
use Rattle.pst_refusals.specs.Answers.{StandEarlier}
use Rattle.pst_refusals.specs.Failing.{fails}
use Rattle.pst_touched.specs.Touched.{Has}

-- the handles that inline constraints in the activity of the action of a node of this fill name, by a list of the types
abbrev pub names_in : List (List ℕ) → Fill → List ℕ
names_in named (fill.Compound action instance fields) = unwrap_or (slice_get named action) []
names_in named _ = []

abbrev pub names_at : List (List ℕ) → Option Node → List ℕ
names_at named None = []
names_at named (Some node) = names_in named node.fill

-- they name none at the nodes of this list
abbrev pub IsNearAt : List Node → List (List ℕ) → ℕ → Type 0
IsNearAt nodes named n = nat_lt 0 (length (names_at named (slice_get nodes n))) ≡ false

abbrev pub AreNear : List Node → List (List ℕ) → List ℕ → Type 0
AreNear nodes named list = (n : ℕ) → Has list n → IsNearAt nodes named n

-- ---- inline constraints that look behind a handle of the action round their traversal

abbrev pub is_behind : ℕ → SlotTree → Bool
is_behind handle (Through other slot) = nat_eq handle other
is_behind handle _ = false

abbrev pub is_outer_behind : ℕ → SlotTree → Bool
is_outer_behind handle (Outer slot) = is_behind handle slot
is_outer_behind handle _ = false

abbrev pub looks_behind : ℕ → ConstraintTree → Bool
looks_behind handle k = list_any (is_outer_behind handle) k.slots

abbrev pub step_looks : ℕ → StepTree → Bool
step_looks handle (Traverse action by inline) = list_any (looks_behind handle) inline
step_looks handle _ = false

-- one of a statement in the activity of the action of node `top` does
abbrev pub stated_looks : ℕ → ℕ → Option Stated → Bool
stated_looks top handle None = false
stated_looks top handle (Some stated) = nat_eq stated.top top && step_looks handle stated.step

-- one of them is refused at the traversal that a node stands for
abbrev pub is_looking_refused : ModelTree → Scenario → ℕ → ℕ → ℕ → Bool
is_looking_refused m s top handle n = stated_looks top handle (statement_of m s.nodes n) && list_any (fails false) (of_stated m s n (statement_of m s.nodes n))

-- none is at the nodes before that number
abbrev pub AreLookingFree : ModelTree → Scenario → ℕ → ℕ → ℕ → Type 0
AreLookingFree m s top handle end = StandEarlier s.nodes → (n : ℕ) → n < end → is_looking_refused m s top handle n ≡ false

-- ---- the nodes of these handles

-- the kinds of blocks
abbrev pub is_sequence : Fill → Bool
is_sequence fill.Sequence = true
is_sequence _ = false

abbrev pub is_parallel : Fill → Bool
is_parallel fill.Parallel = true
is_parallel _ = false

abbrev pub is_schedule : Fill → Bool
is_schedule fill.Schedule = true
is_schedule _ = false

abbrev pub is_joined : Fill → Bool
is_joined (fill.Joined parallel joined) = true
is_joined _ = false

-- A node of this fill stands for a statement of the activity of the action of node `top`. Where it is a traversal by one of
-- these handles, none of the inline constraints that look behind that handle is refused; where it is a block, the node fills it.
abbrev pub IsSettled : ModelTree → Scenario → List ℕ → ℕ → Fill → StepTree → Type 0
IsSettled m s names top f (Traverse action None inline) = Unit {0}
IsSettled m s names top f (Traverse action (Some handle) inline) = (list_any (nat_eq handle) names ≡ false) ⊎ AreLookingFree m s top handle (length s.nodes)
IsSettled m s names top f (Sequence steps) = is_sequence f ≡ true
IsSettled m s names top f (Parallel steps) = is_parallel f ≡ true
IsSettled m s names top f (Schedule steps) = is_schedule f ≡ true
IsSettled m s names top f (Joined parallel join steps) = is_joined f ≡ true
IsSettled m s names top f _ = Unit {0}

-- the node of that number
abbrev pub IsSettledAt : ModelTree → Scenario → List (List ℕ) → ℕ → Type 0
IsSettledAt m s named n =
    StandEarlier s.nodes → (node : Node) (stated : Stated) → slice_get s.nodes n ≡ Some node → statement_of m s.nodes n ≡ Some stated → IsSettled m s (names_at named (slice_get s.nodes stated.top)) stated.top node.fill stated.step

-- those of this list, and those from a number on and before another one
abbrev pub AreSettledAt : ModelTree → Scenario → List (List ℕ) → List ℕ → Type 0
AreSettledAt m s named list = (n : ℕ) → Has list n → IsSettledAt m s named n

abbrev pub AreSettledFrom : ModelTree → Scenario → List (List ℕ) → ℕ → ℕ → Type 0
AreSettledFrom m s named from end = (n : ℕ) → from ≤ n → n < end → IsSettledAt m s named n

pub record AreSettled (m : ModelTree) (s : Scenario) (named : List (List ℕ)) (from : ℕ) (list : List ℕ) : Type 0 where
  pub old : AreSettledAt m s named list
  pub new : AreSettledFrom m s named from (length s.nodes)
