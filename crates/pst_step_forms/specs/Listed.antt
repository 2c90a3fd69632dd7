-- The statements, branches and arms of an activity as lists.
use Rattle.std.specs.Prelude.{ℕ, List, [], ◌∷◌, ◌++◌, Option, Some, None}
use Rattle.pst_ast.specs.ActivityTree.{ArmTree, MakeArm, ArmLabelTree, ArmLabelRanges, ArmLabelDefault}
use Rattle.pst_model.specs.ActivityTree as model
use Rattle.pst_terms.specs.Sources.{Sources}
use Rattle.pst_terms.specs.Readings.{Setting}
use Rattle.pst_elab_rules.specs.Spans.{range_spans}
use Rattle.pst_elab_rules.specs.Steps.{default_of, one_step, statement_step}

-- ---- rows of the model

abbrev pub step_row : List model.StepTree → model.StepRow
step_row [] = model.NoSteps
step_row (x ∷ xs) = model.MoreSteps x (step_row xs)

abbrev pub branch_row : List model.BranchTree → model.BranchRow
branch_row [] = model.NoBranches
branch_row (x ∷ xs) = model.MoreBranches x (branch_row xs)

abbrev pub arm_row : List model.ArmTree → model.ArmRow
arm_row [] = model.NoArms
arm_row (x ∷ xs) = model.MoreArms x (arm_row xs)

-- ---- arms

-- an arm with that label and that step; a default is none
abbrev pub arm_by : Sources → ArmLabelTree → model.StepTree → Option model.ArmTree
arm_by s (ArmLabelRanges left ranges right) step = Some (model.MakeArm (range_spans s ranges) step)
arm_by s (ArmLabelDefault place) step = None

abbrev pub arm_in : Sources → Setting → ℕ → ArmTree → Option model.ArmTree
arm_in s setting level (MakeArm label colon statement) = arm_by s label (one_step (statement_step s setting level statement))

-- the first default
abbrev pub default_among : Sources → Setting → ℕ → List ArmTree → model.MaybeStep
default_among s setting level [] = model.NoStep
default_among s setting level (arm ∷ more) = default_of s setting level arm (default_among s setting level more)

-- a step, or else another one
abbrev pub or_step : model.MaybeStep → model.MaybeStep → model.MaybeStep
or_step model.NoStep other = other
or_step (model.SomeStep step) other = model.SomeStep step

-- ---- the arms of a `match` so far, and the first default among them

pub record ArmsFound : Type 0 where
  pub arms : List model.ArmTree
  pub other : model.MaybeStep

-- and one with that label and that step
abbrev pub with_label : Sources → ArmsFound → ArmLabelTree → model.StepTree → ArmsFound
with_label s found (ArmLabelRanges left ranges right) step = record { arms = found.arms ++ model.MakeArm (range_spans s ranges) step ∷ []; other = found.other }
with_label s found (ArmLabelDefault place) step = record { arms = found.arms; other = or_step found.other (model.SomeStep step) }

abbrev pub with_arm : Sources → Setting → ℕ → ArmsFound → ArmTree → ArmsFound
with_arm s setting level found (MakeArm label colon statement) = with_label s found label (one_step (statement_step s setting level statement))

abbrev pub with_arms : Sources → Setting → ℕ → ArmsFound → List ArmTree → ArmsFound
with_arms s setting level found [] = found
with_arms s setting level found (arm ∷ more) = with_arms s setting level (with_arm s setting level found arm) more
