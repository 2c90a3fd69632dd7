-- The statement that a node stands for, found from the node up.
use Rattle.std.specs.Prelude.{ℕ, zero, suc, List, [], ◌∷◌, ◌++◌, nat_eq, if◌then◌else◌, Option, Some, None, slice_get, length}
use Rattle.std.specs.Option.{option_map, option_and_then}
use Rattle.pst_model.specs.ActivityTree.{StepTree, Repeat}
use Rattle.pst_model.specs.ModelTree.{ModelTree}
use Rattle.pst_scen.specs.declared.tree.Node.{Node}
use Rattle.pst_scen.specs.declared.tree.Fill.{Fill}
use Rattle.pst_scen.specs.declared.tree.Fill.TheVariants as fill
use Rattle.pst_legal.specs.Types.{action_activity}
use Rattle.pst_legal.specs.Statements.{children_of, step_below}

-- a statement in the activity of the compound action of node `top`, in turns with these numbers, the outermost first
pub record Stated : Type 0 where
  pub top : ℕ
  pub step : StepTree
  pub indices : List ℕ

abbrev pub parent_of : List Node → ℕ → Option ℕ
parent_of nodes n = option_and_then (λ node. node.parent) (slice_get nodes n)

-- the first place of a number in a list
abbrev pub position_of : ℕ → List ℕ → Option ℕ
position_of n [] = None
position_of n (x ∷ xs) = if nat_eq x n then Some 0 else option_map suc (position_of n xs)

-- the place of a node among those that stand directly in its parent
abbrev pub place_in : List Node → ℕ → ℕ → Option ℕ
place_in nodes parent n = position_of n (children_of nodes parent)

-- the statement at a place of the activity of the compound action of node `top`
abbrev pub at_place : ModelTree → ℕ → ℕ → ℕ → Option Stated
at_place m top action index =
    option_and_then (λ activity. option_map (λ step. record { top = top; step = step; indices = [] }) (slice_get activity.steps index)) (action_activity m action)

-- the part of a statement at a place, where a node fills the statement
abbrev pub part_at : Fill → Stated → ℕ → Option Stated
part_at fill above index = option_map (λ step. record above { step = step }) (step_below fill above.step index)

abbrev pub repeated : StepTree → Option StepTree
repeated (Repeat count body) = Some body
repeated _ = None

-- what a repetition repeats, in the turn of that number
abbrev pub repeated_in : ℕ → Stated → Option Stated
repeated_in index above = option_map (λ body. record { top = above.top; step = body; indices = above.indices ++ index ∷ [] }) (repeated above.step)

-- the statement of a node that stands directly in another one with this fill; `stated` gives those of the nodes above
abbrev pub below : ModelTree → List Node → (ℕ → Option Stated) → ℕ → ℕ → Fill → Option Stated
below m nodes stated n parent (fill.Compound action instance fields) = option_and_then (at_place m parent action) (place_in nodes parent n)
below m nodes stated n parent (fill.Turn index) = option_and_then (repeated_in index) (option_and_then stated (parent_of nodes parent))
below m nodes stated n parent other = option_and_then (λ above. option_and_then (part_at other above) (place_in nodes parent n)) (stated parent)

abbrev pub below_node : ModelTree → List Node → (ℕ → Option Stated) → ℕ → ℕ → Option Stated
below_node m nodes stated n parent = option_and_then (λ node. below m nodes stated n parent node.fill) (slice_get nodes parent)

-- with at most so many nodes on the way up
abbrev pub stated_within : ModelTree → List Node → ℕ → ℕ → Option Stated
stated_within m nodes zero n = None
stated_within m nodes (suc levels) n = option_and_then (below_node m nodes (stated_within m nodes levels) n) (parent_of nodes n)

-- The statement that the node stands for, none for the root and for a turn of a repetition.
abbrev pub statement_of : ModelTree → List Node → ℕ → Option Stated
statement_of m nodes n = stated_within m nodes (length nodes) n
