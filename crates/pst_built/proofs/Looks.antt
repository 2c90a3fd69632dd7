-- No menu has a leaf among its inner nodes.
use Rattle.std.proofs.Common.{◌≡◌, ℕ, zero, suc, ℤ, pos, negsuc, List, [], ◌∷◌, ◌++◌, length, Bool, true, false, nat_lt, nat_le, Option, Some, None, refl}
use Rattle.std.specs.Prelude.{slice_get}
use Rattle.std.specs.List.{enumerate_from, find}
use Rattle.pst_expr.specs.Value.{is_false}
use Rattle.pst_model.specs.declared.activity.Join.{Join}
use Rattle.pst_model.specs.declared.activity.Join.TheVariants.{Fixed, Choose}
use Rattle.pst_model.specs.ActivityTree.{StepTree, Traverse, Sequence, Parallel, Schedule, Joined, Select, Repeat, If, Match, BranchTree, ArmTree, steps_of, branches_of, arms_of, step_of}
use Rattle.pst_model.specs.ModelTree.{ModelTree, ActionTree, ContentTree, Atomic, Compound}
use Rattle.pst_scen.specs.declared.tree.Fill.TheVariants as fill
use Rattle.pst_scen.specs.Scenarios.{leaf_of}
use Rattle.pst_legal.specs.Types.{type_of, action_instances}
use Rattle.pst_legal.specs.Growing.{Look, Inner, Leaf}
use Rattle.pst_legal.specs.Pieces.{Context, Piece, Action, Statement, Turning, statements, value_in, mask}
use Rattle.pst_legal.specs.Menus.{Menu, plain, content_menu, instance_menu, action_menu, join_menu, block_menu, available, branch_menu, repeat_menu, if_menu, is_in_arm, arm_menu, match_menu, statement_menu, menu}
use Rattle.pst_built.proofs.Ways.{Ways, ways_if}

-- an inner node is no leaf
abbrev pub IsLook : Look → Type 0
IsLook (Inner fill) = (n : ℕ) → leaf_of n fill ≡ []
IsLook (Leaf action instance) = Unit {0}

-- each way of the menu gives such a node
abbrev pub HasLooks : Menu → Type 0
HasLooks m = Ways (λ look fields below. IsLook look) m

content_looks : (type : ActionTree) (content : ContentTree) (action instance : ℕ) → HasLooks (content_menu type content action instance)
content_looks type (Atomic body) action instance = tt
content_looks type (Compound activity) action instance = λ n. refl

instance_looks : (type : ActionTree) (action : ℕ) (instance : Option ℕ) → HasLooks (instance_menu type action instance)
instance_looks type action None = tt
instance_looks type action (Some instance) = content_looks type type.content action instance

action_looks : (m : ModelTree) (action : ℕ) (top : Option ℕ) (type : Option ActionTree) → HasLooks (action_menu m action top type)
action_looks m action top None = tt
action_looks m action top (Some type) = λ k. instance_looks type action (slice_get (action_instances m (Some type) top) k)

join_looks : (after : List Bool → Menu) → ((joined : List Bool) → HasLooks (after joined)) → (n branches : ℕ) (joined : List Bool) → HasLooks (join_menu after n branches joined)
join_looks after each n zero joined = each joined
join_looks after each zero (suc branches) joined = λ k. join_looks after each zero branches (joined ++ false ∷ [])
join_looks after each (suc n) (suc branches) joined =
    ways_if (λ look fields below. IsLook look) (nat_le (suc n) branches) _ _
    (λ k. ways_if (λ look fields below. IsLook look) (nat_lt k 1) _ _ (join_looks after each n branches (joined ++ true ∷ [])) (join_looks after each (suc n) branches (joined ++ false ∷ [])))
    (λ k. join_looks after each n branches (joined ++ true ∷ []))

block_looks : (c : Context) (parallel : Bool) (join : Join) (steps : List StepTree) → HasLooks (block_menu c parallel join steps)
block_looks c parallel (Fixed named) steps = λ n. refl
block_looks c parallel (Choose n) steps =
    ways_if (λ look fields below. IsLook look) (nat_le n (length steps)) _ _
    (join_looks (λ joined. plain (fill.Joined parallel (mask joined)) (statements c steps)) (λ joined k. refl) n (length steps) []) tt

branch_looks : (c : Context) (e : Option (ℕ × BranchTree)) → HasLooks (branch_menu c e)
branch_looks c None = tt
branch_looks c (Some e) = λ n. refl

repeat_looks : (c : Context) (body : StepTree) (count : Option ℤ) → HasLooks (repeat_menu c body count)
repeat_looks c body None = tt
repeat_looks c body (Some (pos n)) = λ k. refl
repeat_looks c body (Some (negsuc n)) = tt

if_looks : (c : Context) (holds : StepTree) (fails : Option StepTree) (v : Option ℤ) → HasLooks (if_menu c holds fails v)
if_looks c holds fails None = tt
if_looks c holds fails (Some v) = ways_if (λ look fields below. IsLook look) (is_false v) _ _ (λ n. refl) (λ n. refl)

arm_looks : (c : Context) (other : Option StepTree) (e : Option (ℕ × ArmTree)) → HasLooks (arm_menu c other e)
arm_looks c None None = tt
arm_looks c (Some step) None = λ n. refl
arm_looks c other (Some e) = λ n. refl

match_looks : (c : Context) (arms : List ArmTree) (other : Option StepTree) (v : Option ℤ) → HasLooks (match_menu c arms other v)
match_looks c arms other None = tt
match_looks c arms other (Some v) = arm_looks c other (find (is_in_arm v) (enumerate_from 0 arms))

statement_looks : (m : ModelTree) (c : Context) (step : StepTree) → HasLooks (statement_menu m c step)
statement_looks m c (Traverse action handle inline) = action_looks m action (Some c.instance) (type_of m action)
statement_looks m c (Sequence steps) = λ n. refl
statement_looks m c (Parallel steps) = λ n. refl
statement_looks m c (Schedule steps) = λ n. refl
statement_looks m c (Joined parallel join steps) = block_looks c parallel join (steps_of steps)
statement_looks m c (Select branches) = λ k. branch_looks c (slice_get (available c (branches_of branches)) k)
statement_looks m c (Repeat count body) = repeat_looks c body (value_in c count)
statement_looks m c (If condition holds fails) = if_looks c holds (step_of fails) (value_in c condition)
statement_looks m c (Match matched arms other) = match_looks c (arms_of arms) (step_of other) (value_in c matched)

pub menu_looks : (m : ModelTree) (piece : Piece) → HasLooks (menu m piece)
menu_looks m (Action action top) = action_looks m action top (type_of m action)
menu_looks m (Statement c step) = statement_looks m c step
menu_looks m (Turning c index body) = λ n. refl
