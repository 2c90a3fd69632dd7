-- When an activity is sound.
use Rattle.std.specs.Prelude.{◌≡◌, ◌≢◌, ℕ, ◌+◌, ◌<◌, ◌≤◌, ℤ, List, length, slice_get, All, AllPairs, true, false, Option, option_and_then, IfSome, Some, IsBitSet}
use Rattle.std.specs.List.{flat_map}
use Rattle.std.specs.Option.{IsSomeAnd}
use Rattle.pst_expr.specs.declared.ranges.Span.{Span}
use Rattle.pst_expr.specs.Spans.{IsInSpan}
use Rattle.pst_model.specs.declared.activity.Tie.{Tie}
use Rattle.pst_model.specs.declared.activity.Join.{Join}
use Rattle.pst_model.specs.declared.activity.Join.TheVariants.{Fixed, Choose}
use Rattle.pst_model.specs.declared.action.Reference.{Reference}
use Rattle.pst_model.specs.declared.object.ObjectKind.TheVariants.{Stream}
use Rattle.pst_model.specs.Limits.{most_branches, most_weight}
use Rattle.pst_model.specs.ConstraintTree.{ConstraintTree}
use Rattle.pst_model.specs.ActivityTree.{StepTree, Traverse, Sequence, Parallel, Schedule, Joined, Select, Repeat, If, Match, BranchTree, MakeBranch, ArmTree, MakeArm, StepRow, NoSteps, MoreSteps, BranchRow, NoBranches, MoreBranches, ArmRow, NoArms, MoreArms, MaybeStep, NoStep, SomeStep, ActivityTree, steps_of, branches_of, arms_of, guard_of, weight_of, spans_of}
use Rattle.pst_model.specs.ModelTree.{ActionTree, ModelTree}
use Rattle.pst_model.specs.SoundConstraint.{IsSoundConstraint}
use Rattle.pst_model.specs.SoundSlots.{IsConditionSlot, IsInlineSlot, IsOfKind, handle_type}
use Rattle.pst_model.specs.Traversals.{IsSteady}

-- P holds of each step in a step, itself included, with the number of repetitions round it
abbrev mutual
  pub EachStep : (ℕ → StepTree → Type 0) → ℕ → StepTree → Type 0
  EachStep P levels (Traverse action handle inline) = P levels (Traverse action handle inline)
  EachStep P levels (Sequence steps) = P levels (Sequence steps) × EachOfSteps P levels steps
  EachStep P levels (Parallel steps) = P levels (Parallel steps) × EachOfSteps P levels steps
  EachStep P levels (Schedule steps) = P levels (Schedule steps) × EachOfSteps P levels steps
  EachStep P levels (Joined parallel join steps) = P levels (Joined parallel join steps) × EachOfSteps P levels steps
  EachStep P levels (Select branches) = P levels (Select branches) × EachOfBranches P levels branches
  EachStep P levels (Repeat count body) = P levels (Repeat count body) × EachStep P (levels + 1) body
  EachStep P levels (If condition holds fails) = P levels (If condition holds fails) × EachStep P levels holds × EachOfMaybe P levels fails
  EachStep P levels (Match value arms other) = P levels (Match value arms other) × EachOfArms P levels arms × EachOfMaybe P levels other

  pub EachOfSteps : (ℕ → StepTree → Type 0) → ℕ → StepRow → Type 0
  EachOfSteps P levels NoSteps = Unit {0}
  EachOfSteps P levels (MoreSteps head tail) = EachStep P levels head × EachOfSteps P levels tail

  pub EachOfBranches : (ℕ → StepTree → Type 0) → ℕ → BranchRow → Type 0
  EachOfBranches P levels NoBranches = Unit {0}
  EachOfBranches P levels (MoreBranches head tail) = EachOfBranch P levels head × EachOfBranches P levels tail

  pub EachOfBranch : (ℕ → StepTree → Type 0) → ℕ → BranchTree → Type 0
  EachOfBranch P levels (MakeBranch guard weight step) = EachStep P levels step

  pub EachOfArms : (ℕ → StepTree → Type 0) → ℕ → ArmRow → Type 0
  EachOfArms P levels NoArms = Unit {0}
  EachOfArms P levels (MoreArms head tail) = EachOfArm P levels head × EachOfArms P levels tail

  pub EachOfArm : (ℕ → StepTree → Type 0) → ℕ → ArmTree → Type 0
  EachOfArm P levels (MakeArm spans step) = EachStep P levels step

  pub EachOfMaybe : (ℕ → StepTree → Type 0) → ℕ → MaybeStep → Type 0
  EachOfMaybe P levels NoStep = Unit {0}
  EachOfMaybe P levels (SomeStep step) = EachStep P levels step

-- P holds of each step in the parts of a step, with the number of repetitions round it
abbrev pub EachPart : (ℕ → StepTree → Type 0) → ℕ → StepTree → Type 0
EachPart P levels (Traverse action handle inline) = Unit {0}
EachPart P levels (Sequence steps) = EachOfSteps P levels steps
EachPart P levels (Parallel steps) = EachOfSteps P levels steps
EachPart P levels (Schedule steps) = EachOfSteps P levels steps
EachPart P levels (Joined parallel join steps) = EachOfSteps P levels steps
EachPart P levels (Select branches) = EachOfBranches P levels branches
EachPart P levels (Repeat count body) = EachStep P (levels + 1) body
EachPart P levels (If condition holds fails) = EachStep P levels holds × EachOfMaybe P levels fails
EachPart P levels (Match value arms other) = EachOfArms P levels arms × EachOfMaybe P levels other

-- a condition, guard, count or matched value
abbrev pub IsCondition : ActionTree → ℕ → ConstraintTree → Type 0
IsCondition action levels c = IsSoundConstraint (IsConditionSlot action levels) c

-- an action that isn't abstract, and sound inline constraints on it
pub record IsTraversed (model : ModelTree) (action : ActionTree) (levels : ℕ) (inline : List ConstraintTree) (traversed : ActionTree) : Type 0 where
  pub concrete : traversed.is_abstract ≡ false
  pub constraints : All (IsSoundConstraint (IsInlineSlot model action traversed levels)) inline

-- the handle, if there is one, is of the traversed action's type
abbrev pub IsHandle : List ℕ → ℕ → Option ℕ → Type 0
IsHandle handles traversed by = IfSome by (λ handle. slice_get handles handle ≡ Some traversed)

-- each bit that is set stands for one of n branches, or at most n are chosen
abbrev pub IsJoin : Join → ℕ → Type 0
IsJoin (Fixed joined) n = (k : ℕ) → IsBitSet joined k → k < n
IsJoin (Choose count) n = count ≤ n

pub record IsSoundBranch (action : ActionTree) (levels : ℕ) (branch : BranchTree) : Type 0 where
  pub guard : IfSome (guard_of branch) (IsCondition action levels)
  pub least : 1 ≤ weight_of branch
  pub most : weight_of branch ≤ most_weight

-- no number is in both ranges
abbrev pub AreApart : Span → Span → Type 0
AreApart s t = (v : ℤ) → IsInSpan v s → IsInSpan v t → ⊥

-- no two ranges of a `match` meet
abbrev pub AreArmsApart : ArmRow → Type 0
AreArmsApart arms = AllPairs AreApart (flat_map spans_of (arms_of arms))

-- what holds of one step of an activity, whatever its parts are
abbrev pub IsSoundStep : ModelTree → ActionTree → List ℕ → ℕ → StepTree → Type 0
IsSoundStep model action handles levels (Traverse traversed handle inline) = IsHandle handles traversed handle × IsSomeAnd (slice_get model.actions traversed) (IsTraversed model action levels inline)
IsSoundStep model action handles levels (Sequence steps) = Unit {0}
IsSoundStep model action handles levels (Parallel steps) = Unit {0}
IsSoundStep model action handles levels (Schedule steps) = Unit {0}
IsSoundStep model action handles levels (Joined parallel join steps) = (length (steps_of steps) ≤ most_branches) × IsJoin join (length (steps_of steps))
IsSoundStep model action handles levels (Select branches) = All (IsSoundBranch action levels) (branches_of branches)
IsSoundStep model action handles levels (Repeat count body) = IsCondition action levels count
IsSoundStep model action handles levels (If condition holds fails) = IsCondition action levels condition
IsSoundStep model action handles levels (Match value arms other) = IsCondition action levels value × AreArmsApart arms

-- ---- binds

-- the reference of a handle's action
abbrev pub reference_of : ModelTree → List ℕ → ℕ → ℕ → Option Reference
reference_of model handles handle number = option_and_then (λ action. slice_get action.references number) (handle_type model handles handle)

-- an output and an input of one object type
pub record AreEnds (output input : Reference) : Type 0 where
  pub gives : output.output ≡ true
  pub takes : input.output ≡ false
  pub same : output.object ≡ input.object

-- a bind goes from an output of one handle's action to an input of another's, each traversed once in each fill
pub record IsSoundTie (model : ModelTree) (activity : ActivityTree) (tie : Tie) : Type 0 where
  pub different : tie.from_handle ≢ tie.to_handle
  pub producer : IsSteady tie.from_handle activity.steps
  pub consumer : IsSteady tie.to_handle activity.steps
  pub ends : IsSomeAnd (reference_of model activity.handles tie.from_handle tie.from_reference) (λ output. IsSomeAnd (reference_of model activity.handles tie.to_handle tie.to_reference) (AreEnds output))

-- the output of a bind is a stream's
abbrev pub IsStreamTie : ModelTree → ActivityTree → Tie → Type 0
IsStreamTie model activity tie = IsSomeAnd (reference_of model activity.handles tie.from_handle tie.from_reference) (λ output. IsOfKind model.objects Stream output.object)

-- two binds have no input in common, and no stream output
pub record AreTiesApart (model : ModelTree) (activity : ActivityTree) (first second : Tie) : Type 0 where
  pub inputs : (first.to_handle ≡ second.to_handle) → (first.to_reference ≡ second.to_reference) → ⊥
  pub outputs : (first.from_handle ≡ second.from_handle) → (first.from_reference ≡ second.from_reference) → IsStreamTie model activity first → ⊥

pub record IsSoundActivity (model : ModelTree) (action : ActionTree) (activity : ActivityTree) : Type 0 where
  pub handles : All (λ type. type < length model.actions) activity.handles
  pub steps : All (EachStep (IsSoundStep model action activity.handles) 0) activity.steps
  pub ties : All (IsSoundTie model activity) activity.binds
  pub apart : AllPairs (AreTiesApart model activity) activity.binds
