-- The handles of an action that inline constraints in its activity name.
use Rattle.std.specs.Prelude.{ℕ, List, [], ◌∷◌, ◌++◌, map, flat_map}
use Rattle.std.specs.Global.{Vec}
use Rattle.pst_model.specs.ConstraintTree.{SlotTree, Through, Outer, ConstraintTree}
use Rattle.pst_model.specs.ActivityTree.{StepTree, Traverse, Sequence, Parallel, Schedule, Joined, Select, Repeat, If, Match, BranchTree, MakeBranch, ArmTree, MakeArm, StepRow, NoSteps, MoreSteps, BranchRow, NoBranches, MoreBranches, ArmRow, NoArms, MoreArms, MaybeStep, NoStep, SomeStep}
use Rattle.pst_model.specs.ModelTree.{ContentTree, Atomic, Compound, ActionTree}

-- the handle behind which a slot stands
abbrev pub first_handle : SlotTree → List ℕ
first_handle (Through handle slot) = handle ∷ []
first_handle _ = []

-- the handle of the action round the traversed one behind which a slot of an inline constraint stands
abbrev pub outer_handle : SlotTree → List ℕ
outer_handle (Outer slot) = first_handle slot
outer_handle _ = []

abbrev pub named_by : ConstraintTree → List ℕ
named_by k = flat_map outer_handle k.slots

abbrev mutual
  -- those in a step, in order
  pub named_in : StepTree → List ℕ
  named_in (Traverse action handle inline) = flat_map named_by inline
  named_in (Sequence steps) = named_in_steps steps
  named_in (Parallel steps) = named_in_steps steps
  named_in (Schedule steps) = named_in_steps steps
  named_in (Joined parallel join steps) = named_in_steps steps
  named_in (Select branches) = named_in_branches branches
  named_in (Repeat count body) = named_in body
  named_in (If condition holds fails) = named_in holds ++ named_in_maybe fails
  named_in (Match value arms other) = named_in_arms arms ++ named_in_maybe other

  pub named_in_steps : StepRow → List ℕ
  named_in_steps NoSteps = []
  named_in_steps (MoreSteps head tail) = named_in head ++ named_in_steps tail

  pub named_in_branches : BranchRow → List ℕ
  named_in_branches NoBranches = []
  named_in_branches (MoreBranches head tail) = named_in_branch head ++ named_in_branches tail

  pub named_in_branch : BranchTree → List ℕ
  named_in_branch (MakeBranch guard weight step) = named_in step

  pub named_in_arms : ArmRow → List ℕ
  named_in_arms NoArms = []
  named_in_arms (MoreArms head tail) = named_in_arm head ++ named_in_arms tail

  pub named_in_arm : ArmTree → List ℕ
  named_in_arm (MakeArm spans step) = named_in step

  pub named_in_maybe : MaybeStep → List ℕ
  named_in_maybe NoStep = []
  named_in_maybe (SomeStep step) = named_in step

abbrev pub named_in_content : ContentTree → List ℕ
named_in_content (Atomic body) = []
named_in_content (Compound activity) = flat_map named_in activity.steps

-- those in the activity of an action type
abbrev pub named_of : ActionTree → List ℕ
named_of type = named_in_content type.content

-- lists as numbers
abbrev pub rows : List (Vec ℕ) → List (List ℕ)
rows lists = map (λ (list : Vec ℕ). list.items) lists
