-- What the binds of activities become, in the order of their text.
use Rattle.std.specs.Prelude.{ℕ, List, [], ◌∷◌, ◌++◌, map}
use Rattle.std.specs.List.{flat_map}
use Rattle.std.specs.Option.{option_map, option_and_then}
use Rattle.pst_ast.specs.declared.activity.EndNode.{EndNode}
use Rattle.pst_ast.specs.ActivityTree.{BindTree, MakeBind, StatementTree, StatementEmpty, StatementLabeled, StatementPlain, CoreTree, CoreDo, CoreHandle, CoreSequence, CoreTogether, CoreSelect, CoreRepeat, CoreIf, CoreIfElse, CoreMatch, CoreBind, BranchTree, MakeBranch, ArmTree, MakeArm, StatementRow, NoStatementRow, MoreStatementRow, BranchRow, NoBranchRow, MoreBranchRow, ArmRow, NoArmRow, MoreArmRow}
use Rattle.pst_model.specs.declared.activity.Tie.{Tie}
use Rattle.pst_ast.specs.declared.scope_declaration.Declaration.{Declaration}
use Rattle.pst_ast.specs.Lookups.{member_of, type_of}
use Rattle.pst_ast.specs.Uses.{other_ends}
use Rattle.pst_tree.specs.Bases.{reference_number}
use Rattle.pst_terms.specs.Sources.{Sources, declared_in}
use Rattle.pst_terms.specs.Readings.{Setting}
use Rattle.pst_elab_rules.specs.Steps.{or_zero, handle_named, handle_of}

-- the number of the reference of a handle's action
abbrev pub end_reference : Sources → EndNode → Declaration → ℕ
end_reference s end action = or_zero (option_map (reference_number (declared_in s) action) (member_of (declared_in s) action end.name.id))

-- the numbers of an end's handle and reference
abbrev pub end_handle : Sources → Setting → EndNode → ℕ
end_handle s setting end = or_zero (handle_of s setting end.handle)

abbrev pub end_number : Sources → Setting → EndNode → ℕ
end_number s setting end = or_zero (option_map (end_reference s end) (option_and_then (type_of (declared_in s)) (handle_named s setting end.handle)))

abbrev pub tie_of : Sources → Setting → EndNode → EndNode → Tie
tie_of s setting from to = record {
  from_handle = end_handle s setting from;
  from_reference = end_number s setting from;
  to_handle = end_handle s setting to;
  to_reference = end_number s setting to;
}

-- a bind ties its first end to each other one
abbrev pub ties_of : Sources → Setting → BindTree → List Tie
ties_of s setting (MakeBind word first others semicolon) = map (tie_of s setting first) (other_ends others)

abbrev mutual
  pub statement_binds : StatementTree → List BindTree
  statement_binds (StatementEmpty place) = []
  statement_binds (StatementLabeled label core) = core_binds core
  statement_binds (StatementPlain core) = core_binds core

  pub core_binds : CoreTree → List BindTree
  core_binds (CoreDo do_place name with_part) = []
  core_binds (CoreHandle name with_part) = []
  core_binds (CoreSequence word left statements right) = row_binds statements
  core_binds (CoreTogether word place join left statements right) = row_binds statements
  core_binds (CoreSelect word left first rest right) = branch_binds first ++ branch_row_binds rest
  core_binds (CoreRepeat word left index count right statement) = statement_binds statement
  core_binds (CoreIf word left condition right then_part) = statement_binds then_part
  core_binds (CoreIfElse word left condition right then_part else_place otherwise) = statement_binds then_part ++ statement_binds otherwise
  core_binds (CoreMatch word left expr right opening first rest close) = arm_binds first ++ arm_row_binds rest
  core_binds (CoreBind bind) = bind ∷ []

  pub row_binds : StatementRow → List BindTree
  row_binds NoStatementRow = []
  row_binds (MoreStatementRow head tail) = statement_binds head ++ row_binds tail

  pub branch_binds : BranchTree → List BindTree
  branch_binds (MakeBranch guard statement) = statement_binds statement

  pub branch_row_binds : BranchRow → List BindTree
  branch_row_binds NoBranchRow = []
  branch_row_binds (MoreBranchRow head tail) = branch_binds head ++ branch_row_binds tail

  pub arm_binds : ArmTree → List BindTree
  arm_binds (MakeArm label colon statement) = statement_binds statement

  pub arm_row_binds : ArmRow → List BindTree
  arm_row_binds NoArmRow = []
  arm_row_binds (MoreArmRow head tail) = arm_binds head ++ arm_row_binds tail

-- the ties of an activity with these statements
abbrev pub ties_in : Sources → Setting → List StatementTree → List Tie
ties_in s setting statements = flat_map (ties_of s setting) (flat_map statement_binds statements)
