-- What is asked of a step, in terms of its lists.
use Rattle.std.proofs.Common.{◌≡◌, ◌≤◌, ℕ, ◌↔◌, All, AllPairs, List, [], ◌∷◌, length, map, subst, sym, ap, ◌∙◌, Bool, Option}
use Rattle.std.specs.List.{flat_map}
use Rattle.std.specs.Global.{Vec, Box}
use Rattle.std.proofs.lemmas.List.{length-map}
use Rattle.std.proofs.lemmas.List.Elements.{All-cons, All-head, All-tail, All-nil}
use Rattle.pst_model.specs.Limits.{most_branches}
use Rattle.pst_model.specs.declared.activity.Step.{Step}
use Rattle.pst_model.specs.declared.activity.Step.TheVariants as the_step
use Rattle.pst_model.specs.declared.activity.Join.{Join}
use Rattle.pst_model.specs.declared.activity.Branch.{Branch}
use Rattle.pst_model.specs.declared.activity.Arm.{Arm}
use Rattle.pst_model.specs.declared.constraint.Constraint.{Constraint}
use Rattle.pst_model.specs.ActivityTree.{StepTree, BranchTree, ArmTree, Traverse, Sequence, Parallel, Schedule, Joined, Select, Repeat, If, Match, steps_of, spans_of}
use Rattle.pst_model.specs.ConstraintTree.{view_constraint}
use Rattle.pst_model.specs.ModelTree.{ActionTree, ModelTree}
use Rattle.pst_model.specs.ModelView.{view_step, view_branch, view_arm, maybe_step}
use Rattle.pst_model.specs.SoundActivity.{IsSoundStep, IsSoundBranch, IsCondition, IsJoin, AreApart, EachStep, EachPart, EachOfSteps, EachOfBranches, EachOfBranch, EachOfArms, EachOfArm, EachOfMaybe}
use Rattle.pst_sound_parts.proofs.Rows.{step_row, branch_row, arm_row, steps_of_row, branches_of_row, arms_of_row, sequence_is, parallel_is, schedule_is, joined_is, select_is, if_is, match_is}

-- ---- one step

pub sound_joined : (model : ModelTree) (action : ActionTree) (handles : List ℕ) (levels : ℕ) (parallel : Bool) (join : Join) (v : Vec Step) (R : Type 0) → (R ↔ (length v.items ≤ most_branches) × IsJoin join (length v.items)) → (R ↔ IsSoundStep model action handles levels (view_step (the_step.Joined parallel join v)))
sound_joined model action handles levels parallel join v R h =
    let same : length v.items ≡ length (steps_of (step_row (map view_step v.items))) = sym (ap length (steps_of_row (map view_step v.items)) ∙ length-map v.items view_step) in
    subst (λ (s : StepTree). R ↔ IsSoundStep model action handles levels s) (sym (joined_is parallel join v))
    (subst (λ (n : ℕ). R ↔ (n ≤ most_branches) × IsJoin join n) same h)

pub sound_select : (model : ModelTree) (action : ActionTree) (handles : List ℕ) (levels : ℕ) (v : Vec Branch) (R : Type 0) → (R ↔ All (IsSoundBranch action levels) (map view_branch v.items)) → (R ↔ IsSoundStep model action handles levels (view_step (the_step.Select v)))
sound_select model action handles levels v R h =
    subst (λ (s : StepTree). R ↔ IsSoundStep model action handles levels s) (sym (select_is v))
    (subst (λ (bs : List BranchTree). R ↔ All (IsSoundBranch action levels) bs) (sym (branches_of_row (map view_branch v.items))) h)

pub sound_match : (model : ModelTree) (action : ActionTree) (handles : List ℕ) (levels : ℕ) (value : Constraint) (v : Vec Arm) (other : Option (Box Step)) (R : Type 0) → (R ↔ IsCondition action levels (view_constraint value) × AllPairs AreApart (flat_map spans_of (map view_arm v.items))) → (R ↔ IsSoundStep model action handles levels (view_step (the_step.Match value v other)))
sound_match model action handles levels value v other R h =
    subst (λ (s : StepTree). R ↔ IsSoundStep model action handles levels s) (sym (match_is value v other))
    (subst (λ (arms : List ArmTree). R ↔ IsCondition action levels (view_constraint value) × AllPairs AreApart (flat_map spans_of arms)) (sym (arms_of_row (map view_arm v.items))) h)

-- ---- a step and its parts

pub step_and_parts : (P : ℕ → StepTree → Type 0) (levels : ℕ) (s : StepTree) → EachStep P levels s ↔ P levels s × EachPart P levels s
step_and_parts P levels (Traverse action handle inline) = (λ h. (h, tt), λ h. h.0)
step_and_parts P levels (Sequence steps) = (λ h. h, λ h. h)
step_and_parts P levels (Parallel steps) = (λ h. h, λ h. h)
step_and_parts P levels (Schedule steps) = (λ h. h, λ h. h)
step_and_parts P levels (Joined parallel join steps) = (λ h. h, λ h. h)
step_and_parts P levels (Select row) = (λ h. h, λ h. h)
step_and_parts P levels (Repeat count body) = (λ h. h, λ h. h)
step_and_parts P levels (If condition holds fails) = (λ h. (h.0, (h.1, h.2)), λ h. (h.0, h.1.0, h.1.1))
step_and_parts P levels (Match value arms other) = (λ h. (h.0, (h.1, h.2)), λ h. (h.0, h.1.0, h.1.1))

steps_row : (P : ℕ → StepTree → Type 0) (levels : ℕ) (xs : List StepTree) → All (EachStep P levels) xs ↔ EachOfSteps P levels (step_row xs)
steps_row P levels [] = (λ h. tt, λ h. All-nil (EachStep P levels))
steps_row P levels (x ∷ xs) = (λ h. (All-head (EachStep P levels) x xs h, (steps_row P levels xs).0 (All-tail (EachStep P levels) x xs h)), λ h. All-cons (EachStep P levels) x xs h.0 ((steps_row P levels xs).1 h.1))

branches_row : (P : ℕ → StepTree → Type 0) (levels : ℕ) (xs : List BranchTree) → All (EachOfBranch P levels) xs ↔ EachOfBranches P levels (branch_row xs)
branches_row P levels [] = (λ h. tt, λ h. All-nil (EachOfBranch P levels))
branches_row P levels (x ∷ xs) = (λ h. (All-head (EachOfBranch P levels) x xs h, (branches_row P levels xs).0 (All-tail (EachOfBranch P levels) x xs h)), λ h. All-cons (EachOfBranch P levels) x xs h.0 ((branches_row P levels xs).1 h.1))

arms_row : (P : ℕ → StepTree → Type 0) (levels : ℕ) (xs : List ArmTree) → All (EachOfArm P levels) xs ↔ EachOfArms P levels (arm_row xs)
arms_row P levels [] = (λ h. tt, λ h. All-nil (EachOfArm P levels))
arms_row P levels (x ∷ xs) = (λ h. (All-head (EachOfArm P levels) x xs h, (arms_row P levels xs).0 (All-tail (EachOfArm P levels) x xs h)), λ h. All-cons (EachOfArm P levels) x xs h.0 ((arms_row P levels xs).1 h.1))

-- ---- the parts of each kind of step

both_ways : {R A B : Type 0} → (R ↔ A) → (A ↔ B) → (R ↔ B)
both_ways f g = (λ r. g.0 (f.0 r), λ b. f.1 (g.1 b))

pub parts_of_sequence : (P : ℕ → StepTree → Type 0) (levels : ℕ) (v : Vec Step) (R : Type 0) → (R ↔ All (EachStep P levels) (map view_step v.items)) → (R ↔ EachPart P levels (view_step (the_step.Sequence v)))
parts_of_sequence P levels v R h = subst (λ (s : StepTree). R ↔ EachPart P levels s) (sym (sequence_is v)) (both_ways h (steps_row P levels (map view_step v.items)))

pub parts_of_parallel : (P : ℕ → StepTree → Type 0) (levels : ℕ) (v : Vec Step) (R : Type 0) → (R ↔ All (EachStep P levels) (map view_step v.items)) → (R ↔ EachPart P levels (view_step (the_step.Parallel v)))
parts_of_parallel P levels v R h = subst (λ (s : StepTree). R ↔ EachPart P levels s) (sym (parallel_is v)) (both_ways h (steps_row P levels (map view_step v.items)))

pub parts_of_schedule : (P : ℕ → StepTree → Type 0) (levels : ℕ) (v : Vec Step) (R : Type 0) → (R ↔ All (EachStep P levels) (map view_step v.items)) → (R ↔ EachPart P levels (view_step (the_step.Schedule v)))
parts_of_schedule P levels v R h = subst (λ (s : StepTree). R ↔ EachPart P levels s) (sym (schedule_is v)) (both_ways h (steps_row P levels (map view_step v.items)))

pub parts_of_joined : (P : ℕ → StepTree → Type 0) (levels : ℕ) (parallel : Bool) (join : Join) (v : Vec Step) (R : Type 0) → (R ↔ All (EachStep P levels) (map view_step v.items)) → (R ↔ EachPart P levels (view_step (the_step.Joined parallel join v)))
parts_of_joined P levels parallel join v R h = subst (λ (s : StepTree). R ↔ EachPart P levels s) (sym (joined_is parallel join v)) (both_ways h (steps_row P levels (map view_step v.items)))

pub parts_of_select : (P : ℕ → StepTree → Type 0) (levels : ℕ) (v : Vec Branch) (R : Type 0) → (R ↔ All (EachOfBranch P levels) (map view_branch v.items)) → (R ↔ EachPart P levels (view_step (the_step.Select v)))
parts_of_select P levels v R h = subst (λ (s : StepTree). R ↔ EachPart P levels s) (sym (select_is v)) (both_ways h (branches_row P levels (map view_branch v.items)))

pub parts_of_if : (P : ℕ → StepTree → Type 0) (levels : ℕ) (condition : Constraint) (holds : Box Step) (fails : Option (Box Step)) (R : Type 0) → (R ↔ EachStep P levels (view_step holds.value) × EachOfMaybe P levels (maybe_step fails)) → (R ↔ EachPart P levels (view_step (the_step.If condition holds fails)))
parts_of_if P levels condition holds fails R h = subst (λ (s : StepTree). R ↔ EachPart P levels s) (sym (if_is condition holds fails)) h

pub parts_of_match : (P : ℕ → StepTree → Type 0) (levels : ℕ) (value : Constraint) (v : Vec Arm) (other : Option (Box Step)) (R : Type 0) → (R ↔ All (EachOfArm P levels) (map view_arm v.items) × EachOfMaybe P levels (maybe_step other)) → (R ↔ EachPart P levels (view_step (the_step.Match value v other)))
parts_of_match P levels value v other R h =
    let row = arms_row P levels (map view_arm v.items) in
    subst (λ (s : StepTree). R ↔ EachPart P levels s) (sym (match_is value v other)) (λ r. let parts = h.0 r in (row.0 parts.0, parts.1), λ parts. h.1 (row.1 parts.0, parts.1))
