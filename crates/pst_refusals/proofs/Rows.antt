-- Whether a step has an inline constraint, by its lists.
use Rattle.std.proofs.Common.{◌≡◌, List, [], ◌∷◌, map, Bool, ◌||◌, Option, refl, ap, ◌∙◌}
use Rattle.std.specs.List.{list_any}
use Rattle.std.specs.Global.{Vec, Box}
use Rattle.pst_model.specs.declared.activity.Step.{Step}
use Rattle.pst_model.specs.declared.activity.Step.TheVariants as the_step
use Rattle.pst_model.specs.declared.activity.Join.{Join}
use Rattle.pst_model.specs.declared.activity.Branch.{Branch}
use Rattle.pst_model.specs.declared.activity.Arm.{Arm}
use Rattle.pst_model.specs.declared.constraint.Constraint.{Constraint}
use Rattle.pst_model.specs.ActivityTree.{StepTree, BranchTree, ArmTree}
use Rattle.pst_model.specs.ModelView.{view_step, view_branch, view_arm, maybe_step}
use Rattle.pst_sound_parts.proofs.Rows.{step_row, branch_row, arm_row, sequence_is, parallel_is, schedule_is, joined_is, select_is, if_is, match_is}
use Rattle.pst_refusals.specs.declared.inlines.Sought.{Sought}
use Rattle.pst_refusals.specs.Inlines.{has_inline, steps_have, branches_have, branch_has, arms_have, arm_has, maybe_has}

steps_row : (which : Sought) (xs : List StepTree) → steps_have which (step_row xs) ≡ list_any (has_inline which) xs
steps_row which [] = refl
steps_row which (x ∷ xs) = ap (λ b. has_inline which x || b) (steps_row which xs)

branches_row : (which : Sought) (xs : List BranchTree) → branches_have which (branch_row xs) ≡ list_any (branch_has which) xs
branches_row which [] = refl
branches_row which (x ∷ xs) = ap (λ b. branch_has which x || b) (branches_row which xs)

arms_row : (which : Sought) (xs : List ArmTree) → arms_have which (arm_row xs) ≡ list_any (arm_has which) xs
arms_row which [] = refl
arms_row which (x ∷ xs) = ap (λ b. arm_has which x || b) (arms_row which xs)

pub in_sequence : (which : Sought) (v : Vec Step) → has_inline which (view_step (the_step.Sequence v)) ≡ list_any (has_inline which) (map view_step v.items)
in_sequence which v = ap (has_inline which) (sequence_is v) ∙ steps_row which (map view_step v.items)

pub in_parallel : (which : Sought) (v : Vec Step) → has_inline which (view_step (the_step.Parallel v)) ≡ list_any (has_inline which) (map view_step v.items)
in_parallel which v = ap (has_inline which) (parallel_is v) ∙ steps_row which (map view_step v.items)

pub in_schedule : (which : Sought) (v : Vec Step) → has_inline which (view_step (the_step.Schedule v)) ≡ list_any (has_inline which) (map view_step v.items)
in_schedule which v = ap (has_inline which) (schedule_is v) ∙ steps_row which (map view_step v.items)

pub in_joined : (which : Sought) (parallel : Bool) (join : Join) (v : Vec Step) → has_inline which (view_step (the_step.Joined parallel join v)) ≡ list_any (has_inline which) (map view_step v.items)
in_joined which parallel join v = ap (has_inline which) (joined_is parallel join v) ∙ steps_row which (map view_step v.items)

pub in_select : (which : Sought) (v : Vec Branch) → has_inline which (view_step (the_step.Select v)) ≡ list_any (branch_has which) (map view_branch v.items)
in_select which v = ap (has_inline which) (select_is v) ∙ branches_row which (map view_branch v.items)

pub in_if : (which : Sought) (condition : Constraint) (holds : Box Step) (fails : Option (Box Step)) → has_inline which (view_step (the_step.If condition holds fails)) ≡ (has_inline which (view_step holds.value) || maybe_has which (maybe_step fails))
in_if which condition holds fails = ap (has_inline which) (if_is condition holds fails)

pub in_match : (which : Sought) (value : Constraint) (arms : Vec Arm) (other : Option (Box Step)) → has_inline which (view_step (the_step.Match value arms other)) ≡ (list_any (arm_has which) (map view_arm arms.items) || maybe_has which (maybe_step other))
in_match which value arms other = ap (has_inline which) (match_is value arms other) ∙ ap (λ b. b || maybe_has which (maybe_step other)) (arms_row which (map view_arm arms.items))
