-- The places of the choices at a piece of an activity, in order, and the ways that they lead to.
-- The order of choices is this project's own: the standard leaves it to a tool.
use Rattle.std.specs.Prelude.{ℕ, zero, suc, ℤ, pos, negsuc, int_le, List, [], ◌∷◌, ◌++◌, length, map, Bool, true, false, ◌&&◌, nat_le, nat_lt, if◌then◌else◌, Option, Some, None, slice_get}
use Rattle.std.specs.List.{enumerate_from, filter, find, list_any}
use Rattle.pst_expr.specs.declared.ranges.Span.{Span}
use Rattle.pst_expr.specs.Value.{is_false}
use Rattle.pst_model.specs.declared.action.Field.{Field}
use Rattle.pst_model.specs.declared.activity.Join.{Join}
use Rattle.pst_model.specs.declared.activity.Join.TheVariants.{Fixed, Choose}
use Rattle.pst_model.specs.ActivityTree.{StepTree, Traverse, Sequence, Parallel, Schedule, Joined, Select, Repeat, If, Match, BranchTree, ArmTree, steps_of, branches_of, arms_of, step_of, guard_of, weight_of, branch_step, spans_of, arm_step}
use Rattle.pst_model.specs.ModelTree.{ModelTree, ActionTree, ContentTree, Atomic, Compound}
use Rattle.pst_scen.specs.declared.tree.Fill.{Fill}
use Rattle.pst_scen.specs.declared.tree.Fill.TheVariants as fill
use Rattle.pst_legal.specs.Types.{type_of, action_instances}
use Rattle.pst_legal.specs.Growing.{Look, Inner, Leaf}
use Rattle.pst_legal.specs.Pieces.{Context, Piece, Action, Statement, Turning, in_turn, value_in, holds_in, statements, optional, turns, mask}

-- A piece's places and its way. A way gives the node, the fields whose values are read once the node stands, and what
-- stands below it then. A place has so many options, or options with these weights, each with what comes after it.
pub data Menu : Type 0 where
  Way : (look : Look) → (fields : List Field) → (below : List ℤ → List Piece) → Menu
  Place : (options : ℕ) → (after : ℕ → Menu) → Menu
  Weighted : (weights : List ℕ) → (after : ℕ → Menu) → Menu
  Closed : Menu

-- a node without values
abbrev pub plain : Fill → List Piece → Menu
plain fill below = Way (Inner fill) [] (λ values. below)

-- ---- actions

abbrev pub content_menu : ActionTree → ContentTree → ℕ → ℕ → Menu
content_menu type (Atomic body) action instance = Way (Leaf action instance) [] (λ values. [])
content_menu type (Compound activity) action instance =
    Way (Inner (fill.Compound action instance [])) type.fields (λ values. statements (record { instance = instance; fields = values; indices = [] }) activity.steps)

abbrev pub instance_menu : ActionTree → ℕ → Option ℕ → Menu
instance_menu type action None = Closed
instance_menu type action (Some instance) = content_menu type type.content action instance

-- the instances in order of number
abbrev pub type_menu : ActionTree → ℕ → List ℕ → Menu
type_menu type action instances = Place (length instances) (λ k. instance_menu type action (slice_get instances k))

abbrev pub action_menu : ModelTree → ℕ → Option ℕ → Option ActionTree → Menu
action_menu m action top None = Closed
action_menu m action top (Some type) = type_menu type action (action_instances m (Some type) top)

-- ---- statements

-- One place for each branch: it is joined, where fewer are joined than are to be, and then it isn't, where those joined so
-- far and the branches after it suffice.
abbrev pub join_menu : (List Bool → Menu) → ℕ → ℕ → List Bool → Menu
join_menu after n zero joined = after joined
join_menu after zero (suc branches) joined = Place 1 (λ k. join_menu after zero branches (joined ++ false ∷ []))
join_menu after (suc n) (suc branches) joined =
    if nat_le (suc n) branches
    then Place 2 (λ k. if nat_lt k 1 then join_menu after n branches (joined ++ true ∷ []) else join_menu after (suc n) branches (joined ++ false ∷ []))
    else Place 1 (λ k. join_menu after n branches (joined ++ true ∷ []))

-- a block that waits for branches; more than there are can't be joined
abbrev pub block_menu : Context → Bool → Join → List StepTree → Menu
block_menu c parallel (Fixed named) steps = plain (fill.Joined parallel named) (statements c steps)
block_menu c parallel (Choose n) steps =
    if nat_le n (length steps) then join_menu (λ joined. plain (fill.Joined parallel (mask joined)) (statements c steps)) n (length steps) [] else Closed

-- the branches whose guard is absent or holds, with their numbers
abbrev pub available : Context → List BranchTree → List (ℕ × BranchTree)
available c branches = filter (λ e. holds_in c (guard_of e.1)) (enumerate_from 0 branches)

abbrev pub branch_menu : Context → Option (ℕ × BranchTree) → Menu
branch_menu c None = Closed
branch_menu c (Some e) = plain (fill.Select e.0) (Statement c (branch_step e.1) ∷ [])

abbrev pub branches_menu : Context → List (ℕ × BranchTree) → Menu
branches_menu c branches = Weighted (map (λ e. weight_of e.1) branches) (λ k. branch_menu c (slice_get branches k))

-- a count without a value, or a negative one, has no way
abbrev pub repeat_menu : Context → StepTree → Option ℤ → Menu
repeat_menu c body None = Closed
repeat_menu c body (Some (pos n)) = plain fill.Repeat (turns c body 0 n)
repeat_menu c body (Some (negsuc n)) = Closed

abbrev pub if_menu : Context → StepTree → Option StepTree → Option ℤ → Menu
if_menu c holds fails None = Closed
if_menu c holds fails (Some v) =
    if is_false v then plain (fill.If false) (optional c fails) else plain (fill.If true) (Statement c holds ∷ [])

abbrev pub is_in_span : ℤ → Span → Bool
is_in_span v span = int_le span.low v && int_le v span.high

abbrev pub is_in_arm : ℤ → ℕ × ArmTree → Bool
is_in_arm v e = list_any (is_in_span v) (spans_of e.1)

abbrev pub other_menu : Context → Option StepTree → Menu
other_menu c None = Closed
other_menu c (Some step) = plain (fill.Match None) (Statement c step ∷ [])

abbrev pub arm_menu : Context → Option StepTree → Option (ℕ × ArmTree) → Menu
arm_menu c other None = other_menu c other
arm_menu c other (Some e) = plain (fill.Match (Some e.0)) (Statement c (arm_step e.1) ∷ [])

abbrev pub match_menu : Context → List ArmTree → Option StepTree → Option ℤ → Menu
match_menu c arms other None = Closed
match_menu c arms other (Some v) = arm_menu c other (find (is_in_arm v) (enumerate_from 0 arms))

abbrev pub statement_menu : ModelTree → Context → StepTree → Menu
statement_menu m c (Traverse action handle inline) = action_menu m action (Some c.instance) (type_of m action)
statement_menu m c (Sequence steps) = plain fill.Sequence (statements c (steps_of steps))
statement_menu m c (Parallel steps) = plain fill.Parallel (statements c (steps_of steps))
statement_menu m c (Schedule steps) = plain fill.Schedule (statements c (steps_of steps))
statement_menu m c (Joined parallel join steps) = block_menu c parallel join (steps_of steps)
statement_menu m c (Select branches) = branches_menu c (available c (branches_of branches))
statement_menu m c (Repeat count body) = repeat_menu c body (value_in c count)
statement_menu m c (If condition holds fails) = if_menu c holds (step_of fails) (value_in c condition)
statement_menu m c (Match matched arms other) = match_menu c (arms_of arms) (step_of other) (value_in c matched)

abbrev pub menu : ModelTree → Piece → Menu
menu m (Action action top) = action_menu m action top (type_of m action)
menu m (Statement c step) = statement_menu m c step
menu m (Turning c index body) = plain (fill.Turn index) (Statement (in_turn c index) body ∷ [])
