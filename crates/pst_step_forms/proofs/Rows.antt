-- The rows of a step's tree are those of its lists.
use Rattle.std.proofs.Common.{◌≡◌, List, map, Bool, Option, Some, None, refl, ap, ◌∙◌}
use Rattle.std.specs.Global.{Vec, Box}
use Rattle.pst_ast.specs.declared.activity.TogetherWord.{TogetherWord}
use Rattle.pst_ast.specs.declared.activity.TogetherWord.TheVariants as word
use Rattle.pst_ast.specs.ActivityTree.{JoinTree, StatementRow}
use Rattle.pst_elab_rules.specs.Steps.{together_step, is_parallel, join_of}
use Rattle.pst_terms.specs.Sources.{Sources}
use Rattle.pst_model.specs.declared.activity.Step.{Step, Row_of-Step, end_of-Step, more_of-Step, Row_of-Branch, end_of-Branch, more_of-Branch, Row_of-Arm, end_of-Arm, more_of-Arm}
use Rattle.pst_model.specs.declared.activity.Step.TheBlock.{items-the_row-Step, items-the_row-Branch, items-the_row-Arm, hidden-the_row-Step-0, items_hidden-the_row-Step-0, hidden-the_row-Branch-1, items_hidden-the_row-Branch-1, hidden-the_row-Arm-2, items_hidden-the_row-Arm-2}
use Rattle.pst_model.specs.declared.activity.Step.TheVariants as the_step
use Rattle.pst_model.specs.declared.activity.Join.{Join}
use Rattle.pst_model.specs.declared.activity.Branch.{Branch}
use Rattle.pst_model.specs.declared.activity.Arm.{Arm}
use Rattle.pst_model.specs.declared.constraint.Constraint.{Constraint}
use Rattle.pst_model.specs.ConstraintTree.{view_constraint}
use Rattle.pst_model.specs.ModelView.{view_step, view_steps, view_branches, view_arms, view_branch, view_arm, maybe_step}
use Rattle.pst_step_forms.specs.Listed.{step_row, branch_row, arm_row}
use Rattle.pst_model.specs.ActivityTree.{StepRow, MoreSteps, BranchRow, MoreBranches, ArmRow, MoreArms, Sequence, Parallel, Schedule, Joined, Select, If, Match}

steps_in : {n : _} (k : Row_of-Step n) → view_steps k ≡ step_row (map view_step (items-the_row-Step n k))
steps_in end_of-Step = refl
steps_in (more_of-Step head tail) = ap (λ (r : StepRow). MoreSteps (view_step head) r) (steps_in tail)

branches_in : {n : _} (k : Row_of-Branch n) → view_branches k ≡ branch_row (map view_branch (items-the_row-Branch n k))
branches_in end_of-Branch = refl
branches_in (more_of-Branch guard weight step tail) = ap (λ (r : BranchRow). MoreBranches (view_branch record { guard = guard; weight = weight; step = step }) r) (branches_in tail)

arms_in : {n : _} (k : Row_of-Arm n) → view_arms k ≡ arm_row (map view_arm (items-the_row-Arm n k))
arms_in end_of-Arm = refl
arms_in (more_of-Arm spans step tail) = ap (λ (r : ArmRow). MoreArms (view_arm record { spans = spans; step = step }) r) (arms_in tail)

abbrev row_of : Vec Step → StepRow
row_of v = step_row (map view_step v.items)

abbrev row_of_branches : Vec Branch → BranchRow
row_of_branches v = branch_row (map view_branch v.items)

abbrev row_of_arms : Vec Arm → ArmRow
row_of_arms v = arm_row (map view_arm v.items)

steps_are : (v : Vec Step) → view_steps (hidden-the_row-Step-0 v) ≡ row_of v
steps_are v = steps_in (hidden-the_row-Step-0 v) ∙ ap (λ (xs : List Step). step_row (map view_step xs)) (items_hidden-the_row-Step-0 v)

branches_are : (v : Vec Branch) → view_branches (hidden-the_row-Branch-1 v) ≡ row_of_branches v
branches_are v = branches_in (hidden-the_row-Branch-1 v) ∙ ap (λ (xs : List Branch). branch_row (map view_branch xs)) (items_hidden-the_row-Branch-1 v)

arms_are : (v : Vec Arm) → view_arms (hidden-the_row-Arm-2 v) ≡ row_of_arms v
arms_are v = arms_in (hidden-the_row-Arm-2 v) ∙ ap (λ (xs : List Arm). arm_row (map view_arm xs)) (items_hidden-the_row-Arm-2 v)

-- ---- the tree of each kind of step

pub sequence_is : (v : Vec Step) → view_step (the_step.Sequence v) ≡ Sequence (step_row (map view_step v.items))
sequence_is v = ap Sequence (steps_are v)

pub parallel_is : (v : Vec Step) → view_step (the_step.Parallel v) ≡ Parallel (step_row (map view_step v.items))
parallel_is v = ap Parallel (steps_are v)

pub schedule_is : (v : Vec Step) → view_step (the_step.Schedule v) ≡ Schedule (step_row (map view_step v.items))
schedule_is v = ap Schedule (steps_are v)

pub joined_is : (parallel : Bool) (join : Join) (v : Vec Step) → view_step (the_step.Joined parallel join v) ≡ Joined parallel join (step_row (map view_step v.items))
joined_is parallel join v = ap (Joined parallel join) (steps_are v)

pub select_is : (v : Vec Branch) → view_step (the_step.Select v) ≡ Select (branch_row (map view_branch v.items))
select_is v = ap Select (branches_are v)

pub if_is : (condition : Constraint) (holds : Box Step) (fails : Option (Box Step)) → view_step (the_step.If condition holds fails) ≡ If (view_constraint condition) (view_step holds.value) (maybe_step fails)
if_is condition holds None = refl
if_is condition holds (Some fails) = refl

pub match_is : (value : Constraint) (arms : Vec Arm) (other : Option (Box Step)) → view_step (the_step.Match value arms other) ≡ Match (view_constraint value) (arm_row (map view_arm arms.items)) (maybe_step other)
match_is value arms None = ap (λ (r : ArmRow). Match (view_constraint value) r (maybe_step None)) (arms_are arms)
match_is value arms (Some other) = ap (λ (r : ArmRow). Match (view_constraint value) r (maybe_step (Some other))) (arms_are arms)

-- ---- blocks of `parallel` and `schedule`

pub together_is : (s : Sources) (word : TogetherWord) (join : JoinTree) (statements : StatementRow) (steps : StepRow) → together_step s word (Some join) statements steps ≡ Joined (is_parallel word) (join_of s statements join) steps
together_is s word.Parallel join statements steps = refl
together_is s word.Schedule join statements steps = refl
