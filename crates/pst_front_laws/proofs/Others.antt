-- Constraints, activities and bodies declare neither actions nor enum items: only indices, locals and the names of constraints.
use Rattle.std.proofs.Common.{◌≡◌, inl, inr, ⊎_elim, refl, subst}
use Rattle.std.specs.Prelude.{Bool, true, false, List, [], ◌∷◌, ◌++◌, Option, Some, None}
use Rattle.std.specs.List.{flat_map}
use Rattle.std.proofs.lemmas.Bool.{false≢true}
use Rattle.pst_base.specs.declared.position.Place.{Place}
use Rattle.pst_ast.specs.declared.shared.LabelNode.{LabelNode}
use Rattle.pst_ast.specs.ConstraintTree.{ConstraintTree, ConstraintOne, ConstraintBlock, ConstraintItemTree, ConstraintItemEmpty, ConstraintItemExpr, ConstraintItemImplies, ConstraintItemIf, ConstraintItemIfElse, ConstraintItemUnique, ConstraintItemForeach, ConstraintItemRow, NoConstraintItemRow, MoreConstraintItemRow, ConstraintContentNamed, ConstraintContentSet, ConstraintDeclarationTree, MakeConstraintDeclaration}
use Rattle.pst_ast.specs.ActivityTree.{WithTree, WithNothing, WithSet, StatementTree, StatementEmpty, StatementLabeled, StatementPlain, CoreTree, CoreDo, CoreHandle, CoreSequence, CoreTogether, CoreSelect, CoreRepeat, CoreIf, CoreIfElse, CoreMatch, CoreBind, BranchTree, MakeBranch, ArmTree, MakeArm, StatementRow, NoStatementRow, MoreStatementRow, BranchRow, NoBranchRow, MoreBranchRow, ArmRow, NoArmRow, MoreArmRow, ActivityTree, MakeActivity}
use Rattle.pst_ast.specs.BodyTree.{BodyStatementTree, BodyStatementEmpty, BodyStatementLocal, BodyStatementAssign, BodyStatementCall, BodyStatementBlock, BodyStatementIf, BodyStatementIfElse, BodyStatementRepeat, BodyStatementRow, NoBodyStatementRow, MoreBodyStatementRow, BodyTree, MakeBody}
use Rattle.pst_ast.specs.declared.scope_declaration.Declaration.{Declaration}
use Rattle.pst_ast.specs.declared.scope_declaration.Sort.{Sort}
use Rattle.pst_ast.specs.declared.scope_declaration.Sort.TheVariants as sort
use Rattle.pst_ast.specs.Declarations.{index_of, in_set, in_item, in_item_row, in_with, in_statement, in_core, in_branch, in_arm, in_statement_row, in_branch_row, in_arm_row, in_activity, in_body_statement, in_body_row, in_body, in_constraint}
use Rattle.pst_ast.specs.Sorts.{is_action, is_item}
use Rattle.pst_front_laws.proofs.Elements.{In, in_append}

-- what is neither an action nor an enum item
abbrev pub is_other : Sort → Bool
is_other (sort.Action base) = false
is_other (sort.Item level) = false
is_other _ = true

pub no_action : (so : Sort) → is_other so ≡ true → is_action so ≡ false
no_action sort.Component e = refl
no_action (sort.Action base) e = absurd (false≢true e)
no_action (sort.Object word) e = refl
no_action sort.Enumeration e = refl
no_action sort.Function e = refl
no_action (sort.Instance of) e = refl
no_action (sort.Pool of) e = refl
no_action (sort.Item level) e = absurd (false≢true e)
no_action (sort.Field array) e = refl
no_action (sort.Reference of output) e = refl
no_action (sort.Claim of) e = refl
no_action (sort.Handle of) e = refl
no_action sort.Constraint e = refl
no_action sort.Parameter e = refl
no_action sort.Local e = refl
no_action sort.Index e = refl

pub no_item : (so : Sort) → is_other so ≡ true → is_item so ≡ false
no_item sort.Component e = refl
no_item (sort.Action base) e = absurd (false≢true e)
no_item (sort.Object word) e = refl
no_item sort.Enumeration e = refl
no_item sort.Function e = refl
no_item (sort.Instance of) e = refl
no_item (sort.Pool of) e = refl
no_item (sort.Item level) e = absurd (false≢true e)
no_item (sort.Field array) e = refl
no_item (sort.Reference of output) e = refl
no_item (sort.Claim of) e = refl
no_item (sort.Handle of) e = refl
no_item sort.Constraint e = refl
no_item sort.Parameter e = refl
no_item sort.Local e = refl
no_item sort.Index e = refl

abbrev pub AreOthers : List Declaration → Type 0
AreOthers xs = (d : Declaration) → In d xs → is_other d.sort ≡ true

pub others_none : AreOthers []
others_none d there = absurd there

others_both : (xs ys : List Declaration) → AreOthers xs → AreOthers ys → AreOthers (xs ++ ys)
others_both xs ys a b d there = ⊎_elim (a d) (b d) (in_append xs ys d there)

pub others_more : (x : Declaration) (xs : List Declaration) → is_other x.sort ≡ true → AreOthers xs → AreOthers (x ∷ xs)
others_more x xs a b d (inl e) = subst (λ (y : Declaration). is_other y.sort ≡ true) e a
others_more x xs a b d (inr there) = b d there

module _ (type : Place) where
  others_index : (label : Option LabelNode) → AreOthers (index_of type label)
  others_index None = others_none
  others_index (Some label) = others_more _ [] refl others_none

  mutual
    in_set_others : (c : ConstraintTree) → AreOthers (in_set type c)
    in_set_others (ConstraintOne item) = in_item_others item
    in_set_others (ConstraintBlock left items right) = in_row_others items

    in_item_others : (c : ConstraintItemTree) → AreOthers (in_item type c)
    in_item_others (ConstraintItemEmpty place) = others_none
    in_item_others (ConstraintItemExpr expr semicolon) = others_none
    in_item_others (ConstraintItemImplies condition arrow set) = in_set_others set
    in_item_others (ConstraintItemIf word left condition right then_part) = in_set_others then_part
    in_item_others (ConstraintItemIfElse word left condition right then_part else_place otherwise) = others_both (in_set type then_part) (in_set type otherwise) (in_set_others then_part) (in_set_others otherwise)
    in_item_others (ConstraintItemUnique word left first rest right semicolon) = others_none
    in_item_others (ConstraintItemForeach word left first rest opening name close right set) = others_more _ (in_set type set) refl (in_set_others set)

    in_row_others : (c : ConstraintItemRow) → AreOthers (in_item_row type c)
    in_row_others NoConstraintItemRow = others_none
    in_row_others (MoreConstraintItemRow head tail) = others_both (in_item type head) (in_item_row type tail) (in_item_others head) (in_row_others tail)

  items_others : (items : List ConstraintItemTree) → AreOthers (flat_map (in_item type) items)
  items_others [] = others_none
  items_others (x ∷ more) = others_both (in_item type x) (flat_map (in_item type) more) (in_item_others x) (items_others more)

  pub constraint_others : (c : ConstraintDeclarationTree) → AreOthers (in_constraint type c)
  constraint_others (MakeConstraintDeclaration word (ConstraintContentNamed name left items right)) = others_more _ (flat_map (in_item type) items) refl (items_others items)
  constraint_others (MakeConstraintDeclaration word (ConstraintContentSet set)) = in_set_others set

  with_others : (w : WithTree) → AreOthers (in_with type w)
  with_others (WithNothing place) = others_none
  with_others (WithSet with_place set) = in_set_others set

  mutual
    statement_others : (t : StatementTree) → AreOthers (in_statement type t)
    statement_others (StatementEmpty place) = others_none
    statement_others (StatementLabeled label core) = core_others core
    statement_others (StatementPlain core) = core_others core

    core_others : (t : CoreTree) → AreOthers (in_core type t)
    core_others (CoreDo do_place name with_part) = with_others with_part
    core_others (CoreHandle name with_part) = with_others with_part
    core_others (CoreSequence word left statements right) = statement_row_others statements
    core_others (CoreTogether word place join left statements right) = statement_row_others statements
    core_others (CoreSelect word left first rest right) = others_both (in_branch type first) (in_branch_row type rest) (branch_others first) (branch_row_others rest)
    core_others (CoreRepeat word left name count right statement) = others_both (index_of type name) (in_statement type statement) (others_index name) (statement_others statement)
    core_others (CoreIf word left condition right then_part) = statement_others then_part
    core_others (CoreIfElse word left condition right then_part else_place otherwise) = others_both (in_statement type then_part) (in_statement type otherwise) (statement_others then_part) (statement_others otherwise)
    core_others (CoreMatch word left expr right opening first rest close) = others_both (in_arm type first) (in_arm_row type rest) (arm_others first) (arm_row_others rest)
    core_others (CoreBind bind) = others_none

    branch_others : (t : BranchTree) → AreOthers (in_branch type t)
    branch_others (MakeBranch guard statement) = statement_others statement

    arm_others : (t : ArmTree) → AreOthers (in_arm type t)
    arm_others (MakeArm label colon statement) = statement_others statement

    statement_row_others : (t : StatementRow) → AreOthers (in_statement_row type t)
    statement_row_others NoStatementRow = others_none
    statement_row_others (MoreStatementRow head tail) = others_both (in_statement type head) (in_statement_row type tail) (statement_others head) (statement_row_others tail)

    branch_row_others : (t : BranchRow) → AreOthers (in_branch_row type t)
    branch_row_others NoBranchRow = others_none
    branch_row_others (MoreBranchRow head tail) = others_both (in_branch type head) (in_branch_row type tail) (branch_others head) (branch_row_others tail)

    arm_row_others : (t : ArmRow) → AreOthers (in_arm_row type t)
    arm_row_others NoArmRow = others_none
    arm_row_others (MoreArmRow head tail) = others_both (in_arm type head) (in_arm_row type tail) (arm_others head) (arm_row_others tail)

  statements_others : (ts : List StatementTree) → AreOthers (flat_map (in_statement type) ts)
  statements_others [] = others_none
  statements_others (x ∷ more) = others_both (in_statement type x) (flat_map (in_statement type) more) (statement_others x) (statements_others more)

  pub activity_others : (t : ActivityTree) → AreOthers (in_activity type t)
  activity_others (MakeActivity word left statements right) = statements_others statements

  mutual
    body_statement_others : (scope : Place) (t : BodyStatementTree) → AreOthers (in_body_statement type scope t)
    body_statement_others scope (BodyStatementEmpty place) = others_none
    body_statement_others scope (BodyStatementLocal plain name value semicolon) = others_more _ [] refl others_none
    body_statement_others scope (BodyStatementAssign name equal source semicolon) = others_none
    body_statement_others scope (BodyStatementCall call semicolon) = others_none
    body_statement_others scope (BodyStatementBlock left statements right) = body_row_others left statements
    body_statement_others scope (BodyStatementIf word left condition right then_part) = body_statement_others right then_part
    body_statement_others scope (BodyStatementIfElse word left condition right then_part else_place otherwise) =
        others_both (in_body_statement type right then_part) (in_body_statement type else_place otherwise) (body_statement_others right then_part) (body_statement_others else_place otherwise)
    body_statement_others scope (BodyStatementRepeat word left name count right statement) = others_both (index_of type name) (in_body_statement type right statement) (others_index name) (body_statement_others right statement)

    body_row_others : (scope : Place) (t : BodyStatementRow) → AreOthers (in_body_row type scope t)
    body_row_others scope NoBodyStatementRow = others_none
    body_row_others scope (MoreBodyStatementRow head tail) = others_both (in_body_statement type scope head) (in_body_row type scope tail) (body_statement_others scope head) (body_row_others scope tail)

  body_statements_others : (scope : Place) (ts : List BodyStatementTree) → AreOthers (flat_map (in_body_statement type scope) ts)
  body_statements_others scope [] = others_none
  body_statements_others scope (x ∷ more) = others_both (in_body_statement type scope x) (flat_map (in_body_statement type scope) more) (body_statement_others scope x) (body_statements_others scope more)

  pub body_others : (t : BodyTree) → AreOthers (in_body type t)
  body_others (MakeBody exec_place body left statements right) = body_statements_others left statements
