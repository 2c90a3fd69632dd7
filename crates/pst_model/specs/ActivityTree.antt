-- Activities without where they lie in memory.
use Rattle.std.specs.Prelude.{ℕ, List, [], ◌∷◌, Bool, Option, Some, None}
use Rattle.pst_expr.specs.declared.ranges.Span.{Span}
use Rattle.pst_model.specs.declared.activity.Tie.{Tie}
use Rattle.pst_model.specs.declared.activity.Join.{Join}
use Rattle.pst_model.specs.ConstraintTree.{ConstraintTree}

mutual
  pub data StepTree : Type 0 where
    -- a traversal of an action, by a handle or by its type alone
    Traverse : (action : ℕ) (handle : Option ℕ) (inline : List ConstraintTree) → StepTree
    -- steps one after another
    Sequence : (steps : StepRow) → StepTree
    -- steps in parallel
    Parallel : (steps : StepRow) → StepTree
    -- steps in any order that the rest of the scenario allows
    Schedule : (steps : StepRow) → StepTree
    -- a block that waits for some of its branches, which are its steps
    Joined : (parallel : Bool) (join : Join) (steps : StepRow) → StepTree
    -- a choice of one branch
    Select : (branches : BranchRow) → StepTree
    -- as many turns as the count says
    Repeat : (count : ConstraintTree) (body : StepTree) → StepTree
    -- a conditional step
    If : (condition : ConstraintTree) (holds : StepTree) (fails : MaybeStep) → StepTree
    -- a choice by value
    Match : (value : ConstraintTree) (arms : ArmRow) (other : MaybeStep) → StepTree

  -- a branch of a choice, with the condition under which it may be taken
  pub data BranchTree : Type 0 where
    MakeBranch : (guard : Option ConstraintTree) (weight : ℕ) (step : StepTree) → BranchTree

  -- an arm of a choice by value, with its ranges
  pub data ArmTree : Type 0 where
    MakeArm : (spans : List Span) (step : StepTree) → ArmTree

  pub data StepRow : Type 0 where
    NoSteps : StepRow
    MoreSteps : (head : StepTree) (tail : StepRow) → StepRow

  pub data BranchRow : Type 0 where
    NoBranches : BranchRow
    MoreBranches : (head : BranchTree) (tail : BranchRow) → BranchRow

  pub data ArmRow : Type 0 where
    NoArms : ArmRow
    MoreArms : (head : ArmTree) (tail : ArmRow) → ArmRow

  pub data MaybeStep : Type 0 where
    NoStep : MaybeStep
    SomeStep : (step : StepTree) → MaybeStep

-- the activity of a compound action: the action types of its handles, its steps, which run one after another, and its binds
pub record ActivityTree : Type 0 where
  pub handles : List ℕ
  pub steps : List StepTree
  pub binds : List Tie

-- ---- rows as lists

abbrev pub steps_of : StepRow → List StepTree
steps_of NoSteps = []
steps_of (MoreSteps head tail) = head ∷ steps_of tail

abbrev pub branches_of : BranchRow → List BranchTree
branches_of NoBranches = []
branches_of (MoreBranches head tail) = head ∷ branches_of tail

abbrev pub arms_of : ArmRow → List ArmTree
arms_of NoArms = []
arms_of (MoreArms head tail) = head ∷ arms_of tail

abbrev pub step_of : MaybeStep → Option StepTree
step_of NoStep = None
step_of (SomeStep step) = Some step

-- ---- the parts of a branch and of an arm

abbrev pub guard_of : BranchTree → Option ConstraintTree
guard_of (MakeBranch guard weight step) = guard

abbrev pub weight_of : BranchTree → ℕ
weight_of (MakeBranch guard weight step) = weight

abbrev pub branch_step : BranchTree → StepTree
branch_step (MakeBranch guard weight step) = step

abbrev pub spans_of : ArmTree → List Span
spans_of (MakeArm spans step) = spans

abbrev pub arm_step : ArmTree → StepTree
arm_step (MakeArm spans step) = step
