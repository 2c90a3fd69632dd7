-- The handles that inline constraints of a step name, by its lists.
use Rattle.std.proofs.Common.{◌≡◌, ℕ, List, [], ◌∷◌, ◌++◌, map, Option, refl, sym, ap, ◌∙◌, append_assoc}
use Rattle.std.specs.List.{flat_map}
use Rattle.std.specs.Global.{Vec, Box}
use Rattle.pst_model.specs.declared.activity.Step.{Step}
use Rattle.pst_model.specs.declared.activity.Step.TheVariants as the_step
use Rattle.pst_model.specs.declared.activity.Join.{Join}
use Rattle.pst_model.specs.declared.activity.Branch.{Branch}
use Rattle.pst_model.specs.declared.activity.Arm.{Arm}
use Rattle.pst_model.specs.declared.constraint.Constraint.{Constraint}
use Rattle.pst_model.specs.ActivityTree.{StepTree, BranchTree, ArmTree}
use Rattle.pst_model.specs.ModelView.{view_step, view_branch, view_arm, maybe_step}
use Rattle.pst_sound_parts.proofs.Rows.{step_row, branch_row, arm_row, sequence_is, parallel_is, schedule_is, joined_is, select_is, if_is, match_is}
use Rattle.pst_new_refusals.specs.Named.{named_in, named_in_steps, named_in_branches, named_in_branch, named_in_arms, named_in_arm, named_in_maybe}

steps_row : (xs : List StepTree) → named_in_steps (step_row xs) ≡ flat_map named_in xs
steps_row [] = refl
steps_row (x ∷ xs) = ap (λ hs. named_in x ++ hs) (steps_row xs)

branches_row : (xs : List BranchTree) → named_in_branches (branch_row xs) ≡ flat_map named_in_branch xs
branches_row [] = refl
branches_row (x ∷ xs) = ap (λ hs. named_in_branch x ++ hs) (branches_row xs)

arms_row : (xs : List ArmTree) → named_in_arms (arm_row xs) ≡ flat_map named_in_arm xs
arms_row [] = refl
arms_row (x ∷ xs) = ap (λ hs. named_in_arm x ++ hs) (arms_row xs)

pub in_sequence : (v : Vec Step) → named_in (view_step (the_step.Sequence v)) ≡ flat_map named_in (map view_step v.items)
in_sequence v = ap named_in (sequence_is v) ∙ steps_row (map view_step v.items)

pub in_parallel : (v : Vec Step) → named_in (view_step (the_step.Parallel v)) ≡ flat_map named_in (map view_step v.items)
in_parallel v = ap named_in (parallel_is v) ∙ steps_row (map view_step v.items)

pub in_schedule : (v : Vec Step) → named_in (view_step (the_step.Schedule v)) ≡ flat_map named_in (map view_step v.items)
in_schedule v = ap named_in (schedule_is v) ∙ steps_row (map view_step v.items)

pub in_joined : (parallel : _) (join : Join) (v : Vec Step) → named_in (view_step (the_step.Joined parallel join v)) ≡ flat_map named_in (map view_step v.items)
in_joined parallel join v = ap named_in (joined_is parallel join v) ∙ steps_row (map view_step v.items)

pub in_select : (v : Vec Branch) → named_in (view_step (the_step.Select v)) ≡ flat_map named_in_branch (map view_branch v.items)
in_select v = ap named_in (select_is v) ∙ branches_row (map view_branch v.items)

pub in_if : (condition : Constraint) (holds : Box Step) (fails : Option (Box Step)) → named_in (view_step (the_step.If condition holds fails)) ≡ named_in (view_step holds.value) ++ named_in_maybe (maybe_step fails)
in_if condition holds fails = ap named_in (if_is condition holds fails)

pub in_match : (value : Constraint) (arms : Vec Arm) (other : Option (Box Step)) → named_in (view_step (the_step.Match value arms other)) ≡ flat_map named_in_arm (map view_arm arms.items) ++ named_in_maybe (maybe_step other)
in_match value arms other = ap named_in (match_is value arms other) ∙ ap (λ hs. hs ++ named_in_maybe (maybe_step other)) (arms_row (map view_arm arms.items))

-- those of two parts
pub named_both : (old mid xs ys all : List ℕ) → mid ≡ old ++ xs → all ≡ xs ++ ys → mid ++ ys ≡ old ++ all
named_both old mid xs ys all is both = ap (λ hs. hs ++ ys) is ∙ append_assoc old xs ys ∙ ap (λ hs. old ++ hs) (sym both)
