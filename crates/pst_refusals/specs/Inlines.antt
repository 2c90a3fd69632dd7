-- Activities with inline constraints.
use Rattle.std.specs.Prelude.{List, length, Bool, true, false, ◌||◌, nat_lt}
use Rattle.std.specs.List.{list_any}
use Rattle.pst_model.specs.ConstraintTree.{SlotTree, Through, Outer, ConstraintTree}
use Rattle.pst_model.specs.ActivityTree.{StepTree, Traverse, Sequence, Parallel, Schedule, Joined, Select, Repeat, If, Match, BranchTree, MakeBranch, ArmTree, MakeArm, StepRow, NoSteps, MoreSteps, BranchRow, NoBranches, MoreBranches, ArmRow, NoArms, MoreArms, MaybeStep, NoStep, SomeStep}
use Rattle.pst_refusals.specs.declared.inlines.Sought.{Sought}
use Rattle.pst_refusals.specs.declared.inlines.Sought.TheVariants as sought
use Rattle.pst_model.specs.ModelTree.{ContentTree, Atomic, Compound, ActionTree, ModelTree}

-- what stands behind a handle, of an action itself or of the one round it
abbrev pub is_far_slot : SlotTree → Bool
is_far_slot (Through handle slot) = true
is_far_slot (Outer slot) = is_far_slot slot
is_far_slot _ = false

-- one of its slots does
abbrev pub is_far : ConstraintTree → Bool
is_far k = list_any is_far_slot k.slots

-- what stands behind a handle of the action round the traversed one
abbrev pub is_outer_slot : SlotTree → Bool
is_outer_slot (Outer slot) = is_far_slot slot
is_outer_slot _ = false

abbrev pub is_outer : ConstraintTree → Bool
is_outer k = list_any is_outer_slot k.slots

-- one of these constraints is sought
abbrev pub is_sought : Sought → List ConstraintTree → Bool
is_sought sought.Any inline = nat_lt 0 (length inline)
is_sought sought.Far inline = list_any is_far inline
is_sought sought.Outer inline = list_any is_outer inline

abbrev mutual
  -- some traversal in the step has an inline constraint that is sought
  pub has_inline : Sought → StepTree → Bool
  has_inline which (Traverse action handle inline) = is_sought which inline
  has_inline which (Sequence steps) = steps_have which steps
  has_inline which (Parallel steps) = steps_have which steps
  has_inline which (Schedule steps) = steps_have which steps
  has_inline which (Joined parallel join steps) = steps_have which steps
  has_inline which (Select branches) = branches_have which branches
  has_inline which (Repeat count body) = has_inline which body
  has_inline which (If condition holds fails) = has_inline which holds || maybe_has which fails
  has_inline which (Match value arms other) = arms_have which arms || maybe_has which other

  pub steps_have : Sought → StepRow → Bool
  steps_have which NoSteps = false
  steps_have which (MoreSteps head tail) = has_inline which head || steps_have which tail

  pub branches_have : Sought → BranchRow → Bool
  branches_have which NoBranches = false
  branches_have which (MoreBranches head tail) = branch_has which head || branches_have which tail

  pub branch_has : Sought → BranchTree → Bool
  branch_has which (MakeBranch guard weight step) = has_inline which step

  pub arms_have : Sought → ArmRow → Bool
  arms_have which NoArms = false
  arms_have which (MoreArms head tail) = arm_has which head || arms_have which tail

  pub arm_has : Sought → ArmTree → Bool
  arm_has which (MakeArm spans step) = has_inline which step

  pub maybe_has : Sought → MaybeStep → Bool
  maybe_has which NoStep = false
  maybe_has which (SomeStep step) = has_inline which step

abbrev pub content_has : Sought → ContentTree → Bool
content_has which (Atomic body) = false
content_has which (Compound activity) = list_any (has_inline which) activity.steps

abbrev pub type_has : Sought → ActionTree → Bool
type_has which type = content_has which type.content

-- one of the model's activities has an inline constraint
abbrev pub has_inlines : ModelTree → Bool
has_inlines m = list_any (type_has sought.Any) m.actions
