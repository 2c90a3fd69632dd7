-- What is told of constraints that may newly be refused.
use Rattle.std.specs.Prelude.{◌≡◌, ◌⊎◌, ℕ, ◌≤◌, ◌<◌, List, [], length, Bool, true, false, ◌&&◌, ◌||◌, Option, Some, None, slice_get}
use Rattle.std.specs.List.{list_any}
use Rattle.pst_model.specs.ModelTree.{ModelTree}
use Rattle.pst_scen.specs.declared.tree.Node.{Node}
use Rattle.pst_scen.specs.declared.tree.Fill.{Fill}
use Rattle.pst_scen.specs.declared.tree.Fill.TheVariants as fill
use Rattle.pst_scen.specs.declared.act.Act.{Act}
use Rattle.pst_scen.specs.declared.act.Filled.{Filled}
use Rattle.pst_scen.specs.declared.scenario.Scenario.{Scenario}
use Rattle.pst_legal.specs.Types.{is_state_pool}
use Rattle.pst_legal.specs.First.{NoneRefused}
use Rattle.pst_slots.specs.Stated.{statement_of}
use Rattle.pst_slots.specs.Listed.{Stating, of_act, of_fill, of_stated, of_first_object}
use Rattle.pst_refusals.specs.Answers.{StandEarlier}
use Rattle.pst_refusals.specs.Failing.{fails}
use Rattle.pst_refusals.specs.Made.{of_made}
use Rattle.pst_touched.specs.Touched.{Has, HasTouched}
use Rattle.pst_new_refusals.specs.Since.{IsSince}
use Rattle.pst_new_refusals.specs.Settled.{AreNear, AreSettled}

-- nodes with actions, of which no first object is read
abbrev pub so_far : List Node → List Act → Scenario
so_far nodes actions = record { level = 0; nodes = nodes; actions = actions; firsts = [] }

-- of the first object of a reference's pool
abbrev pub is_pool_refused : ModelTree → Scenario → Filled → Bool
is_pool_refused m s filled = is_state_pool m filled.pool && list_any (fails false) (of_first_object m s filled.pool)

-- of an action, of what it writes, claims and refers to
abbrev pub is_act_refused : ModelTree → Scenario → Act → Bool
is_act_refused m s act = list_any (fails false) (of_act m s (0, act)) || list_any (is_pool_refused m s) act.references

-- of the compound actions of nodes from a number on, and before another one
abbrev pub AreFree : ModelTree → Scenario → ℕ → ℕ → Type 0
AreFree m s from end = (n : ℕ) (node : Node) → from ≤ n → n < end → slice_get s.nodes n ≡ Some node → list_any (fails false) (of_fill m s n node.fill) ≡ false

abbrev pub is_leaf : Fill → Bool
is_leaf (fill.Leaf act) = true
is_leaf _ = false

-- the inline constraints at the traversals of the other nodes from a number on, and before another one
abbrev pub AreTraversedFree : ModelTree → Scenario → ℕ → ℕ → Type 0
AreTraversedFree m s from end =
    StandEarlier s.nodes → (n : ℕ) (node : Node) → from ≤ n → n < end → slice_get s.nodes n ≡ Some node → is_leaf node.fill ≡ false → list_any (fails false) (of_stated m s n (statement_of m s.nodes n)) ≡ false

-- those at the traversal that makes an action
abbrev pub of_own : ModelTree → Scenario → Act → Option ℕ → List Stating
of_own m s act None = []
of_own m s act (Some n) = of_made m s act (statement_of m s.nodes n)

abbrev pub is_own_refused : ModelTree → Scenario → Act → Bool
is_own_refused m s act = list_any (fails false) (of_own m s act act.node)

-- where nothing is found, that is so
abbrev pub IfNot : Bool → Type 0 → Type 0
IfNot true P = Unit {0}
IfNot false P = P

-- of new nodes and actions, but for what stands at traversals
pub record ArePlainFree (m : ModelTree) (s : Scenario) (from : ℕ) (fresh : List Act) : Type 0 where
  pub nodes : AreFree m s from (length s.nodes)
  pub acts : list_any (is_act_refused m s) fresh ≡ false

-- and what does
pub record AreInlinesFree (m : ModelTree) (s : Scenario) (from : ℕ) (fresh : List Act) : Type 0 where
  pub nodes : AreTraversedFree m s from (length s.nodes)
  pub acts : StandEarlier s.nodes → list_any (is_own_refused m s) fresh ≡ false

-- of the compound action of a node, and of these nodes
abbrev pub IsFreeAt : ModelTree → Scenario → ℕ → Type 0
IsFreeAt m s n = (node : Node) → slice_get s.nodes n ≡ Some node → list_any (fails false) (of_fill m s n node.fill) ≡ false

abbrev pub AreFreeAt : ModelTree → Scenario → List ℕ → Type 0
AreFreeAt m s list = (n : ℕ) → Has list n → IsFreeAt m s n

-- the inline constraints at the traversal of a node, and of these nodes
abbrev pub IsStatedFreeAt : ModelTree → Scenario → ℕ → Type 0
IsStatedFreeAt m s n = StandEarlier s.nodes → list_any (fails false) (of_stated m s n (statement_of m s.nodes n)) ≡ false

abbrev pub AreStatedFreeAt : ModelTree → Scenario → List ℕ → Type 0
AreStatedFreeAt m s list = (n : ℕ) → Has list n → IsStatedFreeAt m s n

-- no inline constraint is refused that looks at one of these nodes, or at one of those from a number on, behind a handle of the
-- action round its traversal
abbrev pub AreBehindFree : ModelTree → Scenario → List (List ℕ) → ℕ → List ℕ → Type 0
AreBehindFree m s named from list = AreNear s.nodes named list ⊎ AreSettled m s named from list

-- of the old nodes that are touched; those at traversals where there are inline constraints
pub record AreTouchedFree (m : ModelTree) (s : Scenario) (named : List (List ℕ)) (inlines : Bool) (from : ℕ) (fresh : List Act) : Type 0 where
  pub list : List ℕ
  pub all : StandEarlier s.nodes → HasTouched s.nodes from fresh list
  pub behind : AreBehindFree m s named from list
  pub nodes : AreFreeAt m s list
  pub stated : (inlines ≡ false) ⊎ AreStatedFreeAt m s list

-- the scenario has these actions, or no constraint looks behind a handle and there are none of them
abbrev pub AreGiven : Bool → List Act → Scenario → Type 0
AreGiven far actions t = (t.actions ≡ actions) ⊎ ((far ≡ false) × (actions ≡ []))

-- Where the scenario of these nodes and actions goes on from one of which no constraint is refused, none of it is.
abbrev pub StaysFree : ModelTree → Bool → List Node → List Act → ℕ → List Act → Type 0
StaysFree m far nodes actions from fresh = (s t : Scenario) → t.nodes ≡ nodes → AreGiven far actions t → IsSince s t from fresh → NoneRefused m s → NoneRefused m t
