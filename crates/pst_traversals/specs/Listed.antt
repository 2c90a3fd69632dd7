-- The traversals of handles in an activity, in the order of their text.
use Rattle.std.specs.Prelude.{List, [], ◌∷◌, ◌++◌, Bool, true, if◌then◌else◌}
use Rattle.std.specs.List.{flat_map}
use Rattle.pst_base.specs.declared.table.NameId.{NameId}
use Rattle.pst_ast.specs.ActivityTree.{StatementTree, StatementEmpty, StatementLabeled, StatementPlain, CoreTree, CoreDo, CoreHandle, CoreSequence, CoreTogether, CoreSelect, CoreRepeat, CoreIf, CoreIfElse, CoreMatch, CoreBind, BranchTree, MakeBranch, ArmTree, MakeArm, StatementRow, NoStatementRow, MoreStatementRow, BranchRow, NoBranchRow, MoreBranchRow, ArmRow, NoArmRow, MoreArmRow}
use Rattle.pst_ast.specs.Sorts.{same_name}
use Rattle.pst_traversals.specs.declared.listing.Traversed.{Traversed}

abbrev mutual
  pub all_in_statement : Bool → StatementTree → List Traversed
  all_in_statement within (StatementEmpty place) = []
  all_in_statement within (StatementLabeled label core) = all_in_core within core
  all_in_statement within (StatementPlain core) = all_in_core within core

  pub all_in_core : Bool → CoreTree → List Traversed
  all_in_core within (CoreDo do_place name with_part) = []
  all_in_core within (CoreHandle name with_part) = record { handle = name.id; within = within } ∷ []
  all_in_core within (CoreSequence word left statements right) = all_in_row within statements
  all_in_core within (CoreTogether word place join left statements right) = all_in_row within statements
  all_in_core within (CoreSelect word left first rest right) = all_in_branch first ++ all_in_branch_row rest
  all_in_core within (CoreRepeat word left index count right statement) = all_in_statement true statement
  all_in_core within (CoreIf word left condition right then_part) = all_in_statement true then_part
  all_in_core within (CoreIfElse word left condition right then_part else_place otherwise) = all_in_statement true then_part ++ all_in_statement true otherwise
  all_in_core within (CoreMatch word left expr right opening first rest close) = all_in_arm first ++ all_in_arm_row rest
  all_in_core within (CoreBind bind) = []

  pub all_in_row : Bool → StatementRow → List Traversed
  all_in_row within NoStatementRow = []
  all_in_row within (MoreStatementRow head tail) = all_in_statement within head ++ all_in_row within tail

  pub all_in_branch : BranchTree → List Traversed
  all_in_branch (MakeBranch guard statement) = all_in_statement true statement

  pub all_in_branch_row : BranchRow → List Traversed
  all_in_branch_row NoBranchRow = []
  all_in_branch_row (MoreBranchRow head tail) = all_in_branch head ++ all_in_branch_row tail

  pub all_in_arm : ArmTree → List Traversed
  all_in_arm (MakeArm label colon statement) = all_in_statement true statement

  pub all_in_arm_row : ArmRow → List Traversed
  all_in_arm_row NoArmRow = []
  all_in_arm_row (MoreArmRow head tail) = all_in_arm head ++ all_in_arm_row tail

-- whether each of the traversals of a handle stands within something
abbrev pub within_of : NameId → Traversed → List Bool
within_of handle t = if same_name t.handle handle then t.within ∷ [] else []

abbrev pub withins : NameId → List Traversed → List Bool
withins handle ts = flat_map (within_of handle) ts
