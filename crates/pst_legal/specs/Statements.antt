-- Which statement of an activity a node fills, and where the node of a handle stands.
use Rattle.std.specs.Prelude.{◌≡◌, ℕ, ◌+◌, List, [], ◌∷◌, ◌++◌, map, nat_eq, if◌then◌else◌, true, false, Option, Some, None, slice_get}
use Rattle.std.specs.List.{enumerate_from, filter}
use Rattle.std.specs.Option.{option_map, option_and_then}
use Rattle.pst_model.specs.ConstraintTree.{ConstraintTree}
use Rattle.pst_model.specs.ActivityTree.{StepTree, Traverse, Sequence, Parallel, Schedule, Joined, Select, Repeat, If, Match, StepRow, NoSteps, MoreSteps, ActivityTree, steps_of, branches_of, arms_of, step_of, branch_step, arm_step}
use Rattle.pst_model.specs.ModelTree.{ModelTree}
use Rattle.pst_scen.specs.declared.tree.Node.{Node}
use Rattle.pst_scen.specs.declared.tree.Fill.{Fill}
use Rattle.pst_scen.specs.declared.tree.Fill.TheVariants as fill
use Rattle.pst_scen.specs.Tree.{IsNode, IsChild, is_parent}
use Rattle.pst_legal.specs.Types.{action_activity}

-- the nodes that stand directly in one, in order
abbrev pub children_of : List Node → ℕ → List ℕ
children_of nodes parent = map (λ e. e.0) (filter (λ e. is_parent parent e.1.parent) (enumerate_from 0 nodes))

-- the child of that place
abbrev pub IsBranch : List Node → ℕ → ℕ → ℕ → Type 0
IsBranch nodes parent index child = slice_get (children_of nodes parent) index ≡ Some child

-- The statement that the child of that place fills, where a node fills a statement of its kind. (The children of a repetition
-- are its turns.)
abbrev pub step_below : Fill → StepTree → ℕ → Option StepTree
step_below fill.Sequence (Sequence steps) index = slice_get (steps_of steps) index
step_below fill.Parallel (Parallel steps) index = slice_get (steps_of steps) index
step_below fill.Schedule (Schedule steps) index = slice_get (steps_of steps) index
step_below (fill.Joined _ _) (Joined parallel join steps) index = slice_get (steps_of steps) index
step_below (fill.Select branch) (Select branches) index = option_map branch_step (slice_get (branches_of branches) branch)
step_below (fill.If true) (If condition holds fails) index = Some holds
step_below (fill.If false) (If condition holds fails) index = step_of fails
step_below (fill.Match (Some arm)) (Match matched arms other) index = option_map arm_step (slice_get (arms_of arms) arm)
step_below (fill.Match None) (Match matched arms other) index = step_of other
step_below _ _ index = None

-- The node stands for the statement, in the activity of the compound action of node `top`, in turns with these numbers,
-- the outermost first.
pub data StandsFor (m : ModelTree) (nodes : List Node) (top : ℕ) : ℕ → StepTree → List ℕ → Type 0 where
  AtTop : (n index action instance : ℕ) (fields : List _) (activity : ActivityTree) (node : Node) (step : StepTree)
      → IsNode nodes top node → node.fill ≡ fill.Compound action instance fields → action_activity m action ≡ Some activity
      → IsBranch nodes top index n → slice_get activity.steps index ≡ Some step
      → StandsFor m nodes top n step []
  Below : (n parent index : ℕ) (node : Node) (above step : StepTree) (indices : List ℕ)
      → StandsFor m nodes top parent above indices → IsNode nodes parent node
      → IsBranch nodes parent index n → step_below node.fill above index ≡ Some step
      → StandsFor m nodes top n step indices
  InTurn : (n turn parent index : ℕ) (node : Node) (count : ConstraintTree) (body : StepTree) (indices : List ℕ)
      → StandsFor m nodes top parent (Repeat count body) indices
      → IsChild nodes turn parent → IsNode nodes turn node → node.fill ≡ fill.Turn index → IsChild nodes n turn
      → StandsFor m nodes top n body (indices ++ index ∷ [])

-- ---- handles

-- a way that leads on from there, or else the others
abbrev pub first_way : ℕ → Option (List ℕ) → Option (List ℕ) → Option (List ℕ)
first_way index None others = others
first_way index (Some way) others = Some (index ∷ way)

abbrev mutual
  -- The places on the way from an activity down to the traversal by a handle. A handle that is named anywhere is traversed
  -- once, and not inside select, repeat, if or match, so the way leads through blocks alone.
  pub way_in_step : ℕ → StepTree → Option (List ℕ)
  way_in_step handle (Traverse action None inline) = None
  way_in_step handle (Traverse action (Some h) inline) = if nat_eq h handle then Some [] else None
  way_in_step handle (Sequence steps) = way_in_row handle 0 steps
  way_in_step handle (Parallel steps) = way_in_row handle 0 steps
  way_in_step handle (Schedule steps) = way_in_row handle 0 steps
  way_in_step handle (Joined parallel join steps) = way_in_row handle 0 steps
  way_in_step handle (Select _) = None
  way_in_step handle (Repeat _ _) = None
  way_in_step handle (If _ _ _) = None
  way_in_step handle (Match _ _ _) = None

  pub way_in_row : ℕ → ℕ → StepRow → Option (List ℕ)
  way_in_row handle index NoSteps = None
  way_in_row handle index (MoreSteps step steps) = first_way index (way_in_step handle step) (way_in_row handle (index + 1) steps)

abbrev pub way_in : ℕ → ℕ → List StepTree → Option (List ℕ)
way_in handle index [] = None
way_in handle index (step ∷ steps) = first_way index (way_in_step handle step) (way_in handle (index + 1) steps)

-- the node at the end of a way down from a node, if the tree has it
abbrev pub node_on : List Node → ℕ → List ℕ → Option ℕ
node_on nodes top [] = Some top
node_on nodes top (index ∷ way) = option_and_then (λ child. node_on nodes child way) (slice_get (children_of nodes top) index)

-- The node of the traversal by a handle, in the activity of the compound action of node `top`; none where it isn't in the
-- tree yet.
abbrev pub handle_node : ModelTree → List Node → ℕ → ℕ → ℕ → Option ℕ
handle_node m nodes top action handle =
    option_and_then (λ activity. option_and_then (node_on nodes top) (way_in handle 0 activity.steps)) (action_activity m action)
