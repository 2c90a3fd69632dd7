-- What is kept of lists of traversals, one after another.
use Rattle.std.proofs.Common.{◌≡◌, ◌++◌, ℕ, List, [], ◌∷◌, map, Bool, true, false, Option, refl, ap, ◌∙◌}
use Rattle.std.specs.List.{flat_map}
use Rattle.std.specs.Global.{Vec, Box}
use Rattle.pst_model.specs.declared.activity.Step.{Step}
use Rattle.pst_model.specs.declared.activity.Step.TheVariants as the_step
use Rattle.pst_model.specs.declared.activity.Join.{Join}
use Rattle.pst_model.specs.declared.activity.Branch.{Branch}
use Rattle.pst_model.specs.declared.activity.Arm.{Arm}
use Rattle.pst_model.specs.declared.constraint.Constraint.{Constraint}
use Rattle.pst_sound_parts.specs.declared.traversals.Seen.{Seen}
use Rattle.pst_sound_parts.specs.declared.traversals.Seen.TheVariants.{Never, Once, Otherwise}
use Rattle.pst_model.specs.ActivityTree.{StepTree, BranchTree, ArmTree}
use Rattle.pst_model.specs.ModelView.{view_step, view_branch, view_arm, maybe_step}
use Rattle.pst_model.specs.Traversals.{traversals, traversals_of_steps, traversals_of_branches, traversals_of_branch, traversals_of_arms, traversals_of_arm, traversals_of_maybe}
use Rattle.pst_sound_parts.specs.Seen.{seen_of, joined}
use Rattle.pst_sound_parts.proofs.Rows.{step_row, branch_row, arm_row, sequence_is, parallel_is, schedule_is, joined_is, select_is, if_is, match_is}

joined_otherwise : (a : Seen) → joined a Otherwise ≡ Otherwise
joined_otherwise Never = refl
joined_otherwise Once = refl
joined_otherwise Otherwise = refl

pub joined_never : (a : Seen) → joined a Never ≡ a
joined_never Never = refl
joined_never Once = refl
joined_never Otherwise = refl

pub joined_assoc : (a b c : Seen) → joined (joined a b) c ≡ joined a (joined b c)
joined_assoc Never b c = refl
joined_assoc Once Never c = refl
joined_assoc Once Once Never = refl
joined_assoc Once Once Once = refl
joined_assoc Once Once Otherwise = refl
joined_assoc Once Otherwise c = refl
joined_assoc Otherwise b c = refl

seen_once : (ys : List Bool) → seen_of (false ∷ ys) ≡ joined Once (seen_of ys)
seen_once [] = refl
seen_once (true ∷ rest) = refl
seen_once (false ∷ []) = refl
seen_once (false ∷ y ∷ rest) = refl

pub seen_append : (xs ys : List Bool) → seen_of (xs ++ ys) ≡ joined (seen_of xs) (seen_of ys)
seen_append [] ys = refl
seen_append (true ∷ rest) ys = refl
seen_append (false ∷ []) ys = seen_once ys
seen_append (false ∷ x ∷ rest) ys = refl

-- ---- the traversals in a row are those in its list

steps_row : (h : ℕ) (w : Bool) (xs : List StepTree) → traversals_of_steps h w (step_row xs) ≡ flat_map (traversals h w) xs
steps_row h w [] = refl
steps_row h w (x ∷ xs) = ap (λ (bs : List Bool). traversals h w x ++ bs) (steps_row h w xs)

branches_row : (h : ℕ) (xs : List BranchTree) → traversals_of_branches h (branch_row xs) ≡ flat_map (traversals_of_branch h) xs
branches_row h [] = refl
branches_row h (x ∷ xs) = ap (λ (bs : List Bool). traversals_of_branch h x ++ bs) (branches_row h xs)

arms_row : (h : ℕ) (xs : List ArmTree) → traversals_of_arms h (arm_row xs) ≡ flat_map (traversals_of_arm h) xs
arms_row h [] = refl
arms_row h (x ∷ xs) = ap (λ (bs : List Bool). traversals_of_arm h x ++ bs) (arms_row h xs)

-- ---- the traversals in each kind of step

pub in_sequence : (h : ℕ) (w : Bool) (v : Vec Step) → traversals h w (view_step (the_step.Sequence v)) ≡ flat_map (traversals h w) (map view_step v.items)
in_sequence h w v = ap (traversals h w) (sequence_is v) ∙ steps_row h w (map view_step v.items)

pub in_parallel : (h : ℕ) (w : Bool) (v : Vec Step) → traversals h w (view_step (the_step.Parallel v)) ≡ flat_map (traversals h w) (map view_step v.items)
in_parallel h w v = ap (traversals h w) (parallel_is v) ∙ steps_row h w (map view_step v.items)

pub in_schedule : (h : ℕ) (w : Bool) (v : Vec Step) → traversals h w (view_step (the_step.Schedule v)) ≡ flat_map (traversals h w) (map view_step v.items)
in_schedule h w v = ap (traversals h w) (schedule_is v) ∙ steps_row h w (map view_step v.items)

pub in_joined : (h : ℕ) (w : Bool) (parallel : Bool) (join : Join) (v : Vec Step) → traversals h w (view_step (the_step.Joined parallel join v)) ≡ flat_map (traversals h w) (map view_step v.items)
in_joined h w parallel join v = ap (traversals h w) (joined_is parallel join v) ∙ steps_row h w (map view_step v.items)

pub in_select : (h : ℕ) (w : Bool) (v : Vec Branch) → traversals h w (view_step (the_step.Select v)) ≡ flat_map (traversals_of_branch h) (map view_branch v.items)
in_select h w v = ap (traversals h w) (select_is v) ∙ branches_row h (map view_branch v.items)

pub in_if : (h : ℕ) (w : Bool) (condition : Constraint) (holds : Box Step) (fails : Option (Box Step)) → seen_of (traversals h w (view_step (the_step.If condition holds fails))) ≡ joined (seen_of (traversals h true (view_step holds.value))) (seen_of (traversals_of_maybe h (maybe_step fails)))
in_if h w condition holds fails = ap (λ (s : StepTree). seen_of (traversals h w s)) (if_is condition holds fails) ∙ seen_append (traversals h true (view_step holds.value)) (traversals_of_maybe h (maybe_step fails))

pub in_match : (h : ℕ) (w : Bool) (value : Constraint) (arms : Vec Arm) (other : Option (Box Step)) → seen_of (traversals h w (view_step (the_step.Match value arms other))) ≡ joined (seen_of (flat_map (traversals_of_arm h) (map view_arm arms.items))) (seen_of (traversals_of_maybe h (maybe_step other)))
in_match h w value arms other =
    ap (λ (s : StepTree). seen_of (traversals h w s)) (match_is value arms other)
    ∙ seen_append (traversals_of_arms h (arm_row (map view_arm arms.items))) (traversals_of_maybe h (maybe_step other))
    ∙ ap (λ (bs : List Bool). joined (seen_of bs) (seen_of (traversals_of_maybe h (maybe_step other)))) (arms_row h (map view_arm arms.items))
