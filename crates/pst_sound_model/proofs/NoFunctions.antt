-- What constraints, activities and bodies declare is no function.
use Rattle.std.proofs.Common.{◌≡◌, inl, inr, ⊎_elim, refl, subst}
use Rattle.std.specs.Prelude.{false, List, [], ◌∷◌, ◌++◌, Option, Some, None}
use Rattle.std.specs.List.{flat_map}
use Rattle.pst_base.specs.declared.position.Place.{Place}
use Rattle.pst_ast.specs.declared.shared.LabelNode.{LabelNode}
use Rattle.pst_ast.specs.ConstraintTree.{ConstraintTree, ConstraintOne, ConstraintBlock, ConstraintItemTree, ConstraintItemEmpty, ConstraintItemExpr, ConstraintItemImplies, ConstraintItemIf, ConstraintItemIfElse, ConstraintItemUnique, ConstraintItemForeach, ConstraintItemRow, NoConstraintItemRow, MoreConstraintItemRow, ConstraintContentNamed, ConstraintContentSet, ConstraintDeclarationTree, MakeConstraintDeclaration}
use Rattle.pst_ast.specs.ActivityTree.{WithTree, WithNothing, WithSet, StatementTree, StatementEmpty, StatementLabeled, StatementPlain, CoreTree, CoreDo, CoreHandle, CoreSequence, CoreTogether, CoreSelect, CoreRepeat, CoreIf, CoreIfElse, CoreMatch, CoreBind, BranchTree, MakeBranch, ArmTree, MakeArm, StatementRow, NoStatementRow, MoreStatementRow, BranchRow, NoBranchRow, MoreBranchRow, ArmRow, NoArmRow, MoreArmRow, ActivityTree, MakeActivity}
use Rattle.pst_ast.specs.BodyTree.{BodyStatementTree, BodyStatementEmpty, BodyStatementLocal, BodyStatementAssign, BodyStatementCall, BodyStatementBlock, BodyStatementIf, BodyStatementIfElse, BodyStatementRepeat, BodyStatementRow, NoBodyStatementRow, MoreBodyStatementRow, BodyTree, MakeBody}
use Rattle.pst_ast.specs.declared.scope_declaration.Declaration.{Declaration}
use Rattle.pst_ast.specs.Sorts.{is_function}
use Rattle.pst_ast.specs.Declarations.{index_of, in_set, in_item, in_item_row, in_with, in_statement, in_core, in_branch, in_arm, in_statement_row, in_branch_row, in_arm_row, in_activity, in_body_statement, in_body_row, in_body, in_constraint}
use Rattle.pst_sound_model.proofs.Members.{In, in_append}

-- none of these is a function
abbrev pub AreNone : List Declaration → Type 0
AreNone xs = (d : Declaration) → In d xs → is_function d.sort ≡ false

none_at_all : AreNone []
none_at_all d there = absurd there

none_both : (xs ys : List Declaration) → AreNone xs → AreNone ys → AreNone (xs ++ ys)
none_both xs ys a b d there = ⊎_elim (a d) (b d) (in_append xs ys d there)

none_more : (x : Declaration) (xs : List Declaration) → is_function x.sort ≡ false → AreNone xs → AreNone (x ∷ xs)
none_more x xs a b d (inl e) = subst (λ (y : Declaration). is_function y.sort ≡ false) e a
none_more x xs a b d (inr there) = b d there

module _ (type : Place) where
  none_index : (label : Option LabelNode) → AreNone (index_of type label)
  none_index None = none_at_all
  none_index (Some label) = none_more _ [] refl none_at_all

  mutual
    in_set_none : (c : ConstraintTree) → AreNone (in_set type c)
    in_set_none (ConstraintOne item) = in_item_none item
    in_set_none (ConstraintBlock left items right) = in_row_none items

    in_item_none : (c : ConstraintItemTree) → AreNone (in_item type c)
    in_item_none (ConstraintItemEmpty place) = none_at_all
    in_item_none (ConstraintItemExpr expr semicolon) = none_at_all
    in_item_none (ConstraintItemImplies condition arrow set) = in_set_none set
    in_item_none (ConstraintItemIf word left condition right then_part) = in_set_none then_part
    in_item_none (ConstraintItemIfElse word left condition right then_part else_place otherwise) = none_both (in_set type then_part) (in_set type otherwise) (in_set_none then_part) (in_set_none otherwise)
    in_item_none (ConstraintItemUnique word left first rest right semicolon) = none_at_all
    in_item_none (ConstraintItemForeach word left first rest opening name close right set) = none_more _ (in_set type set) refl (in_set_none set)

    in_row_none : (c : ConstraintItemRow) → AreNone (in_item_row type c)
    in_row_none NoConstraintItemRow = none_at_all
    in_row_none (MoreConstraintItemRow head tail) = none_both (in_item type head) (in_item_row type tail) (in_item_none head) (in_row_none tail)

  items_none : (items : List ConstraintItemTree) → AreNone (flat_map (in_item type) items)
  items_none [] = none_at_all
  items_none (x ∷ more) = none_both (in_item type x) (flat_map (in_item type) more) (in_item_none x) (items_none more)

  pub constraint_none : (c : ConstraintDeclarationTree) → AreNone (in_constraint type c)
  constraint_none (MakeConstraintDeclaration word (ConstraintContentNamed name left items right)) = none_more _ (flat_map (in_item type) items) refl (items_none items)
  constraint_none (MakeConstraintDeclaration word (ConstraintContentSet set)) = in_set_none set

  with_none : (w : WithTree) → AreNone (in_with type w)
  with_none (WithNothing place) = none_at_all
  with_none (WithSet with_place set) = in_set_none set

  mutual
    statement_none : (t : StatementTree) → AreNone (in_statement type t)
    statement_none (StatementEmpty place) = none_at_all
    statement_none (StatementLabeled label core) = core_none core
    statement_none (StatementPlain core) = core_none core

    core_none : (t : CoreTree) → AreNone (in_core type t)
    core_none (CoreDo do_place name with_part) = with_none with_part
    core_none (CoreHandle name with_part) = with_none with_part
    core_none (CoreSequence word left statements right) = statement_row_none statements
    core_none (CoreTogether word place join left statements right) = statement_row_none statements
    core_none (CoreSelect word left first rest right) = none_both (in_branch type first) (in_branch_row type rest) (branch_none first) (branch_row_none rest)
    core_none (CoreRepeat word left name count right statement) = none_both (index_of type name) (in_statement type statement) (none_index name) (statement_none statement)
    core_none (CoreIf word left condition right then_part) = statement_none then_part
    core_none (CoreIfElse word left condition right then_part else_place otherwise) = none_both (in_statement type then_part) (in_statement type otherwise) (statement_none then_part) (statement_none otherwise)
    core_none (CoreMatch word left expr right opening first rest close) = none_both (in_arm type first) (in_arm_row type rest) (arm_none first) (arm_row_none rest)
    core_none (CoreBind bind) = none_at_all

    branch_none : (t : BranchTree) → AreNone (in_branch type t)
    branch_none (MakeBranch guard statement) = statement_none statement

    arm_none : (t : ArmTree) → AreNone (in_arm type t)
    arm_none (MakeArm label colon statement) = statement_none statement

    statement_row_none : (t : StatementRow) → AreNone (in_statement_row type t)
    statement_row_none NoStatementRow = none_at_all
    statement_row_none (MoreStatementRow head tail) = none_both (in_statement type head) (in_statement_row type tail) (statement_none head) (statement_row_none tail)

    branch_row_none : (t : BranchRow) → AreNone (in_branch_row type t)
    branch_row_none NoBranchRow = none_at_all
    branch_row_none (MoreBranchRow head tail) = none_both (in_branch type head) (in_branch_row type tail) (branch_none head) (branch_row_none tail)

    arm_row_none : (t : ArmRow) → AreNone (in_arm_row type t)
    arm_row_none NoArmRow = none_at_all
    arm_row_none (MoreArmRow head tail) = none_both (in_arm type head) (in_arm_row type tail) (arm_none head) (arm_row_none tail)

  statements_none : (ts : List StatementTree) → AreNone (flat_map (in_statement type) ts)
  statements_none [] = none_at_all
  statements_none (x ∷ more) = none_both (in_statement type x) (flat_map (in_statement type) more) (statement_none x) (statements_none more)

  pub activity_none : (t : ActivityTree) → AreNone (in_activity type t)
  activity_none (MakeActivity word left statements right) = statements_none statements

  mutual
    body_statement_none : (scope : Place) (t : BodyStatementTree) → AreNone (in_body_statement type scope t)
    body_statement_none scope (BodyStatementEmpty place) = none_at_all
    body_statement_none scope (BodyStatementLocal plain name value semicolon) = none_more _ [] refl none_at_all
    body_statement_none scope (BodyStatementAssign name equal source semicolon) = none_at_all
    body_statement_none scope (BodyStatementCall call semicolon) = none_at_all
    body_statement_none scope (BodyStatementBlock left statements right) = body_row_none left statements
    body_statement_none scope (BodyStatementIf word left condition right then_part) = body_statement_none right then_part
    body_statement_none scope (BodyStatementIfElse word left condition right then_part else_place otherwise) =
        none_both (in_body_statement type right then_part) (in_body_statement type else_place otherwise) (body_statement_none right then_part) (body_statement_none else_place otherwise)
    body_statement_none scope (BodyStatementRepeat word left name count right statement) = none_both (index_of type name) (in_body_statement type right statement) (none_index name) (body_statement_none right statement)

    body_row_none : (scope : Place) (t : BodyStatementRow) → AreNone (in_body_row type scope t)
    body_row_none scope NoBodyStatementRow = none_at_all
    body_row_none scope (MoreBodyStatementRow head tail) = none_both (in_body_statement type scope head) (in_body_row type scope tail) (body_statement_none scope head) (body_row_none scope tail)

  body_statements_none : (scope : Place) (ts : List BodyStatementTree) → AreNone (flat_map (in_body_statement type scope) ts)
  body_statements_none scope [] = none_at_all
  body_statements_none scope (x ∷ more) = none_both (in_body_statement type scope x) (flat_map (in_body_statement type scope) more) (body_statement_none scope x) (body_statements_none scope more)

  pub body_none : (t : BodyTree) → AreNone (in_body type t)
  body_none (MakeBody exec_place body left statements right) = body_statements_none left statements
