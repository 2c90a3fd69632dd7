-- Which steps of an activity traverse the action of a handle.
use Rattle.std.specs.Prelude.{◌≡◌, ℕ, List, [], ◌∷◌, ◌++◌, Bool, true, false, nat_eq, if◌then◌else◌, Option, Some, None}
use Rattle.std.specs.List.{flat_map}
use Rattle.pst_model.specs.ActivityTree.{StepTree, Traverse, Sequence, Parallel, Schedule, Joined, Select, Repeat, If, Match, BranchTree, MakeBranch, ArmTree, MakeArm, StepRow, NoSteps, MoreSteps, BranchRow, NoBranches, MoreBranches, ArmRow, NoArms, MoreArms, MaybeStep, NoStep, SomeStep}

-- one entry where the traversal is by the handle
abbrev pub traversal_by : ℕ → Bool → Option ℕ → List Bool
traversal_by handle within None = []
traversal_by handle within (Some other) = if nat_eq handle other then within ∷ [] else []

-- one entry for each traversal of the handle's action: whether it stands within a `select`, `repeat`, `if` or `match`
abbrev mutual
  pub traversals : ℕ → Bool → StepTree → List Bool
  traversals handle within (Traverse action by inline) = traversal_by handle within by
  traversals handle within (Sequence steps) = traversals_of_steps handle within steps
  traversals handle within (Parallel steps) = traversals_of_steps handle within steps
  traversals handle within (Schedule steps) = traversals_of_steps handle within steps
  traversals handle within (Joined parallel join steps) = traversals_of_steps handle within steps
  traversals handle within (Select branches) = traversals_of_branches handle branches
  traversals handle within (Repeat count body) = traversals handle true body
  traversals handle within (If condition holds fails) = traversals handle true holds ++ traversals_of_maybe handle fails
  traversals handle within (Match value arms other) = traversals_of_arms handle arms ++ traversals_of_maybe handle other

  pub traversals_of_steps : ℕ → Bool → StepRow → List Bool
  traversals_of_steps handle within NoSteps = []
  traversals_of_steps handle within (MoreSteps head tail) = traversals handle within head ++ traversals_of_steps handle within tail

  pub traversals_of_branches : ℕ → BranchRow → List Bool
  traversals_of_branches handle NoBranches = []
  traversals_of_branches handle (MoreBranches head tail) = traversals_of_branch handle head ++ traversals_of_branches handle tail

  pub traversals_of_branch : ℕ → BranchTree → List Bool
  traversals_of_branch handle (MakeBranch guard weight step) = traversals handle true step

  pub traversals_of_arms : ℕ → ArmRow → List Bool
  traversals_of_arms handle NoArms = []
  traversals_of_arms handle (MoreArms head tail) = traversals_of_arm handle head ++ traversals_of_arms handle tail

  pub traversals_of_arm : ℕ → ArmTree → List Bool
  traversals_of_arm handle (MakeArm spans step) = traversals handle true step

  pub traversals_of_maybe : ℕ → MaybeStep → List Bool
  traversals_of_maybe handle NoStep = []
  traversals_of_maybe handle (SomeStep step) = traversals handle true step

-- The steps traverse the handle's action exactly once, and not within a `select`, `repeat`, `if` or `match`.
abbrev pub IsSteady : ℕ → List StepTree → Type 0
IsSteady handle steps = flat_map (traversals handle false) steps ≡ false ∷ []
