-- What the statements of activities become.
use Rattle.std.specs.Prelude.{ℕ, ◌+◌, ◌*◌, Bool, true, false, not, List, [], ◌∷◌, map, Option, Some, None, if◌then◌else◌}
use Rattle.std.specs.List.{filter, list_any}
use Rattle.std.specs.Option.{option_map, option_map_or}
use Rattle.pst_base.specs.declared.table.NameId.{NameId}
use Rattle.pst_ast.specs.declared.leaf.Name.{Name}
use Rattle.pst_ast.specs.declared.shared.LabelNode.{LabelNode}
use Rattle.pst_ast.specs.declared.activity.TogetherWord.{TogetherWord}
use Rattle.pst_ast.specs.declared.activity.TogetherWord.TheVariants as together
use Rattle.pst_ast.specs.ActivityTree.{WithTree, WithNothing, WithSet, JoinTree, JoinBranch, JoinNothing, JoinSelect, WeightTree, MakeWeight, GuardTree, GuardCondition, GuardWeight, ArmLabelTree, ArmLabelRanges, ArmLabelDefault, StatementTree, StatementEmpty, StatementLabeled, StatementPlain, CoreTree, CoreDo, CoreHandle, CoreSequence, CoreTogether, CoreSelect, CoreRepeat, CoreIf, CoreIfElse, CoreMatch, CoreBind, BranchTree, MakeBranch, ArmTree, MakeArm, StatementRow, NoStatementRow, MoreStatementRow, BranchRow, NoBranchRow, MoreBranchRow, ArmRow, NoArmRow, MoreArmRow}
use Rattle.pst_model.specs.declared.activity.Join.{Join}
use Rattle.pst_model.specs.declared.activity.Join.TheVariants.{Fixed, Choose}
use Rattle.pst_model.specs.ConstraintTree.{ConstraintTree}
use Rattle.pst_model.specs.ActivityTree.{StepTree, Traverse, Sequence, Parallel, Schedule, Joined, Select, Repeat, If, Match, StepRow, NoSteps, MoreSteps, NoBranches, MoreBranches, NoArms, MoreArms, MaybeStep, NoStep, SomeStep}
use Rattle.pst_model.specs.ActivityTree as step
use Rattle.pst_ast.specs.declared.scope_declaration.Declaration.{Declaration}
use Rattle.pst_ast.specs.declared.referent.Owner.{Owner}
use Rattle.pst_ast.specs.declared.referent.Owner.TheVariants.{OfAction}
use Rattle.pst_ast.specs.declared.referent.Referent.{Referent}
use Rattle.pst_ast.specs.declared.referent.Referent.TheVariants.{Declared}
use Rattle.pst_ast.specs.declared.referent.Traversal.{Traversal}
use Rattle.pst_ast.specs.declared.referent.Traversal.TheVariants.{ByType}
use Rattle.pst_ast.specs.Declarations.{names_of}
use Rattle.pst_ast.specs.Sorts.{is_handle, same_name}
use Rattle.pst_ast.specs.Lookups.{traversed, value_named}
use Rattle.pst_ast.specs.Uses.{by_handle, label_of, is_branch}
use Rattle.pst_tree.specs.Bases.{action_number, handle_number}
use Rattle.pst_terms.specs.Sources.{Sources, declared_in, amount_of}
use Rattle.pst_terms.specs.Slots.{constraint_of}
use Rattle.pst_terms.specs.Readings.{Setting, AtLevel, expression_of}
use Rattle.pst_elab_rules.specs.Constraints.{with_turn, set_terms}
use Rattle.pst_elab_rules.specs.Spans.{range_spans}

-- ---- traversals

abbrev pub inline_of : Sources → Setting → Traversal → WithTree → List ConstraintTree
inline_of s setting traversal (WithNothing place) = []
inline_of s setting traversal (WithSet with_place set) = map constraint_of (set_terms s (record setting { at = record setting.at { traversal = Some traversal } }) set)

abbrev pub or_zero : Option ℕ → ℕ
or_zero n = option_map_or (λ k. k) n 0

-- the number of the action type that is traversed
abbrev pub traversed_number : Sources → Setting → Traversal → ℕ
traversed_number s setting traversal = or_zero (option_map (action_number (declared_in s)) (traversed (declared_in s) s.names setting.at traversal))

abbrev pub handle_in : Option Referent → Option Declaration
handle_in (Some (Declared d)) = if is_handle d.sort then Some d else None
handle_in _ = None

-- the handle that a name stands for
abbrev pub handle_named : Sources → Setting → Name → Option Declaration
handle_named s setting name = handle_in (value_named (declared_in s) s.names setting.at name.id)

abbrev pub handle_number_in : Sources → Owner → Declaration → ℕ
handle_number_in s (OfAction action) h = handle_number (declared_in s) action h
handle_number_in s _ h = 0

abbrev pub handle_of : Sources → Setting → Name → Option ℕ
handle_of s setting name = option_map (handle_number_in s setting.at.owner) (handle_named s setting name)

abbrev pub by_name : Sources → Setting → Name → WithTree → StepTree
by_name s setting name with_part = let traversal = by_handle setting.at name in Traverse (traversed_number s setting traversal) (handle_of s setting name) (inline_of s setting traversal with_part)

-- ---- blocks

-- a `;` or a bind is no step; where one step is asked for, it stands as an empty sequence
abbrev pub one_step : Option StepTree → StepTree
one_step None = Sequence NoSteps
one_step (Some step) = step

abbrev pub more_steps : Option StepTree → StepRow → StepRow
more_steps None row = row
more_steps (Some step) row = MoreSteps step row

-- the branches of a block, each with its label if it has one
abbrev pub branch_labels : StatementRow → List (Option NameId)
branch_labels NoStatementRow = []
branch_labels (MoreStatementRow head tail) = if is_branch head then label_of head ∷ branch_labels tail else branch_labels tail

-- bit k stands for branch k; of several branches with a label that is named the first is joined
abbrev pub joined_bits : List NameId → List (Option NameId) → ℕ
joined_bits named [] = 0
joined_bits named (None ∷ more) = 2 * joined_bits named more
joined_bits named (Some label ∷ more) =
    if list_any (same_name label) named then 1 + 2 * joined_bits (filter (λ n. not (same_name label n)) named) more else 2 * joined_bits named more

abbrev pub join_of : Sources → StatementRow → JoinTree → Join
join_of s statements (JoinBranch word left names right) = Fixed (joined_bits (map (λ n. n.id) (names_of names)) (branch_labels statements))
join_of s statements (JoinNothing place) = Fixed 0
join_of s statements (JoinSelect word left count right) = Choose (amount_of s count)

abbrev pub is_parallel : TogetherWord → Bool
is_parallel together.Parallel = true
is_parallel together.Schedule = false

abbrev pub together_step : Sources → TogetherWord → Option JoinTree → StatementRow → StepRow → StepTree
together_step s together.Parallel None statements steps = Parallel steps
together_step s together.Schedule None statements steps = Schedule steps
together_step s word (Some join) statements steps = Joined (is_parallel word) (join_of s statements join) steps

-- ---- choices

abbrev pub weight_in : Sources → WeightTree → ℕ
weight_in s (MakeWeight left expr right) = amount_of s expr

abbrev pub guard_of : Sources → Setting → Option GuardTree → Option ConstraintTree
guard_of s setting (Some (GuardCondition left condition right weight colon)) = Some (expression_of s setting condition)
guard_of s setting _ = None

-- 1 where none is given
abbrev pub weight_of : Sources → Option GuardTree → ℕ
weight_of s (Some (GuardCondition left condition right (Some weight) colon)) = weight_in s weight
weight_of s (Some (GuardWeight weight colon)) = weight_in s weight
weight_of s _ = 1

abbrev pub add_arm : Sources → ArmLabelTree → StepTree → step.ArmRow → step.ArmRow
add_arm s (ArmLabelRanges left ranges right) inner row = MoreArms (step.MakeArm (range_spans s ranges) inner) row
add_arm s (ArmLabelDefault place) inner row = row

abbrev pub first_default : ArmLabelTree → StepTree → MaybeStep → MaybeStep
first_default (ArmLabelRanges left ranges right) inner other = other
first_default (ArmLabelDefault place) inner other = SomeStep inner

-- within a repetition with that many others round it
abbrev pub turn_setting : Setting → ℕ → Option LabelNode → Setting
turn_setting setting level None = setting
turn_setting setting level (Some label) = with_turn setting label.name (AtLevel level)

-- ---- steps, with the number of repetitions round them

abbrev mutual
  pub statement_step : Sources → Setting → ℕ → StatementTree → Option StepTree
  statement_step s setting level (StatementEmpty place) = None
  statement_step s setting level (StatementLabeled label core) = core_step s setting level core
  statement_step s setting level (StatementPlain core) = core_step s setting level core

  pub core_step : Sources → Setting → ℕ → CoreTree → Option StepTree
  core_step s setting level (CoreDo do_place name with_part) = Some (Traverse (traversed_number s setting (ByType name)) None (inline_of s setting (ByType name) with_part))
  core_step s setting level (CoreHandle name with_part) = Some (by_name s setting name with_part)
  core_step s setting level (CoreSequence word left statements right) = Some (Sequence (row_steps s setting level statements))
  core_step s setting level (CoreTogether word place join left statements right) = Some (together_step s word join statements (row_steps s setting level statements))
  core_step s setting level (CoreSelect word left first rest right) = Some (Select (MoreBranches (branch_step s setting level first) (branch_steps s setting level rest)))
  core_step s setting level (CoreRepeat word left index count right statement) =
      Some (Repeat (expression_of s setting count) (one_step (statement_step s (turn_setting setting level index) (level + 1) statement)))
  core_step s setting level (CoreIf word left condition right then_part) = Some (If (expression_of s setting condition) (one_step (statement_step s setting level then_part)) NoStep)
  core_step s setting level (CoreIfElse word left condition right then_part else_place otherwise) =
      Some (If (expression_of s setting condition) (one_step (statement_step s setting level then_part)) (SomeStep (one_step (statement_step s setting level otherwise))))
  core_step s setting level (CoreMatch word left expr right opening first rest close) =
      Some (Match (expression_of s setting expr) (arm_row s setting level first (arm_rows s setting level rest)) (default_of s setting level first (default_in s setting level rest)))
  core_step s setting level (CoreBind bind) = None

  pub row_steps : Sources → Setting → ℕ → StatementRow → StepRow
  row_steps s setting level NoStatementRow = NoSteps
  row_steps s setting level (MoreStatementRow head tail) = more_steps (statement_step s setting level head) (row_steps s setting level tail)

  pub branch_step : Sources → Setting → ℕ → BranchTree → step.BranchTree
  branch_step s setting level (MakeBranch guard statement) = step.MakeBranch (guard_of s setting guard) (weight_of s guard) (one_step (statement_step s setting level statement))

  pub branch_steps : Sources → Setting → ℕ → BranchRow → step.BranchRow
  branch_steps s setting level NoBranchRow = NoBranches
  branch_steps s setting level (MoreBranchRow head tail) = MoreBranches (branch_step s setting level head) (branch_steps s setting level tail)

  pub arm_row : Sources → Setting → ℕ → ArmTree → step.ArmRow → step.ArmRow
  arm_row s setting level (MakeArm label colon statement) row = add_arm s label (one_step (statement_step s setting level statement)) row

  pub arm_rows : Sources → Setting → ℕ → ArmRow → step.ArmRow
  arm_rows s setting level NoArmRow = NoArms
  arm_rows s setting level (MoreArmRow head tail) = arm_row s setting level head (arm_rows s setting level tail)

  pub default_of : Sources → Setting → ℕ → ArmTree → MaybeStep → MaybeStep
  default_of s setting level (MakeArm label colon statement) other = first_default label (one_step (statement_step s setting level statement)) other

  pub default_in : Sources → Setting → ℕ → ArmRow → MaybeStep
  default_in s setting level NoArmRow = NoStep
  default_in s setting level (MoreArmRow head tail) = default_of s setting level head (default_in s setting level tail)
