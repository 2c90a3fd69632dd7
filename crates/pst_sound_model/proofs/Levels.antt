-- Scopes: an index and a local have one of their own, all else is declared where its text stands.
use Rattle.std.proofs.Common.{◌≡◌, inl, inr, ⊎_elim, refl, subst}
use Rattle.std.specs.Prelude.{true, false, List, [], ◌∷◌, ◌++◌, map, Option, Some, None}
use Rattle.std.specs.List.{flat_map}
use Rattle.pst_base.specs.declared.position.Place.{Place}
use Rattle.pst_ast.specs.declared.shared.LabelNode.{LabelNode}
use Rattle.pst_ast.specs.ExpressionTree.{PartTree, MakePart}
use Rattle.pst_ast.specs.ConstraintTree.{ConstraintTree, ConstraintOne, ConstraintBlock, ConstraintItemTree, ConstraintItemEmpty, ConstraintItemExpr, ConstraintItemImplies, ConstraintItemIf, ConstraintItemIfElse, ConstraintItemUnique, ConstraintItemForeach, ConstraintItemRow, NoConstraintItemRow, MoreConstraintItemRow, ConstraintContentNamed, ConstraintContentSet, ConstraintDeclarationTree, MakeConstraintDeclaration}
use Rattle.pst_ast.specs.ActivityTree.{WithTree, WithNothing, WithSet, StatementTree, StatementEmpty, StatementLabeled, StatementPlain, CoreTree, CoreDo, CoreHandle, CoreSequence, CoreTogether, CoreSelect, CoreRepeat, CoreIf, CoreIfElse, CoreMatch, CoreBind, BranchTree, MakeBranch, ArmTree, MakeArm, StatementRow, NoStatementRow, MoreStatementRow, BranchRow, NoBranchRow, MoreBranchRow, ArmRow, NoArmRow, MoreArmRow, ActivityTree, MakeActivity}
use Rattle.pst_ast.specs.BodyTree.{BodyStatementTree, BodyStatementEmpty, BodyStatementLocal, BodyStatementAssign, BodyStatementCall, BodyStatementBlock, BodyStatementIf, BodyStatementIfElse, BodyStatementRepeat, BodyStatementRow, NoBodyStatementRow, MoreBodyStatementRow, BodyTree, MakeBody}
use Rattle.pst_ast.specs.declared.scope_declaration.Declaration.{Declaration}
use Rattle.pst_ast.specs.declared.scope_declaration.Sort.{Sort}
use Rattle.pst_ast.specs.declared.scope_declaration.Sort.TheVariants as sort
use Rattle.pst_ast.specs.DeclarationTree.{UnitTree, MakeUnit, ItemTree, ItemComponent, ItemObject, ItemEnum, ItemFunction, ItemEmpty, MakeComponent, ComponentPartTree, ComponentPartAction, ComponentPartObject, ComponentPartEnum, ComponentPartFunction, ComponentPartPool, ComponentPartPoolBind, ComponentPartMembers, ComponentPartEmpty, ObjectTree, MakeObject, ObjectPartTree, ObjectPartField, ObjectPartConstraint, ObjectPartEmpty, FieldTree, EnumTree, MakeEnum, FunctionTree, MakeFunction, MakePool, MembersTree, MakeMembers, MakeReference, MakeClaim, ActionTree, MakeAction, ActionPartTree, ActionPartField, ActionPartReference, ActionPartClaim, ActionPartMembers, ActionPartConstraint, ActionPartActivity, ActionPartBody, ActionPartEmpty}
use Rattle.pst_ast.specs.declared.scope_declaration.Scope.TheVariants.{Files}
use Rattle.pst_ast.specs.Declarations.{level_of, type_declared, member, field_part, field_parts, in_field, is_output, names_of, in_members, in_action_part, in_object_part, in_action, in_object, item_name, next_item, in_enum, parameter_name, parameters_of, in_function, in_component_part, in_item_of_unit, in_unit, declarations, index_of, in_set, in_item, in_item_row, in_with, in_statement, in_core, in_branch, in_arm, in_statement_row, in_branch_row, in_arm_row, in_activity, in_body_statement, in_body_row, in_body, in_constraint}
use Rattle.pst_ast.specs.Sorts.{is_component}
use Rattle.pst_terms.specs.Readings.{is_inner_sort}
use Rattle.pst_sound_model.proofs.Members.{In, in_append, in_map, in_flat_map}

abbrev AreInner : List Declaration → Type 0
AreInner xs = (d : Declaration) → In d xs → is_inner_sort d.sort ≡ true

inner_none : AreInner []
inner_none d there = absurd there

inner_both : (xs ys : List Declaration) → AreInner xs → AreInner ys → AreInner (xs ++ ys)
inner_both xs ys a b d there = ⊎_elim (a d) (b d) (in_append xs ys d there)

inner_more : (x : Declaration) (xs : List Declaration) → is_inner_sort x.sort ≡ true → AreInner xs → AreInner (x ∷ xs)
inner_more x xs a b d (inl e) = subst (λ (y : Declaration). is_inner_sort y.sort ≡ true) e a
inner_more x xs a b d (inr there) = b d there

module _ (type : Place) where
  inner_index : (label : Option LabelNode) → AreInner (index_of type label)
  inner_index None = inner_none
  inner_index (Some label) = inner_more _ [] refl inner_none

  mutual
    pub in_set_inner : (c : ConstraintTree) → AreInner (in_set type c)
    in_set_inner (ConstraintOne item) = in_item_inner item
    in_set_inner (ConstraintBlock left items right) = in_row_inner items

    in_item_inner : (c : ConstraintItemTree) → AreInner (in_item type c)
    in_item_inner (ConstraintItemEmpty place) = inner_none
    in_item_inner (ConstraintItemExpr expr semicolon) = inner_none
    in_item_inner (ConstraintItemImplies condition arrow set) = in_set_inner set
    in_item_inner (ConstraintItemIf word left condition right then_part) = in_set_inner then_part
    in_item_inner (ConstraintItemIfElse word left condition right then_part else_place otherwise) = inner_both (in_set type then_part) (in_set type otherwise) (in_set_inner then_part) (in_set_inner otherwise)
    in_item_inner (ConstraintItemUnique word left first rest right semicolon) = inner_none
    in_item_inner (ConstraintItemForeach word left first rest opening name close right set) = inner_more _ (in_set type set) refl (in_set_inner set)

    in_row_inner : (c : ConstraintItemRow) → AreInner (in_item_row type c)
    in_row_inner NoConstraintItemRow = inner_none
    in_row_inner (MoreConstraintItemRow head tail) = inner_both (in_item type head) (in_item_row type tail) (in_item_inner head) (in_row_inner tail)

  pub items_inner : (items : List ConstraintItemTree) → AreInner (flat_map (in_item type) items)
  items_inner [] = inner_none
  items_inner (x ∷ more) = inner_both (in_item type x) (flat_map (in_item type) more) (in_item_inner x) (items_inner more)

  with_inner : (w : WithTree) → AreInner (in_with type w)
  with_inner (WithNothing place) = inner_none
  with_inner (WithSet with_place set) = in_set_inner set

  mutual
    statement_inner : (t : StatementTree) → AreInner (in_statement type t)
    statement_inner (StatementEmpty place) = inner_none
    statement_inner (StatementLabeled label core) = core_inner core
    statement_inner (StatementPlain core) = core_inner core

    core_inner : (t : CoreTree) → AreInner (in_core type t)
    core_inner (CoreDo do_place name with_part) = with_inner with_part
    core_inner (CoreHandle name with_part) = with_inner with_part
    core_inner (CoreSequence word left statements right) = statement_row_inner statements
    core_inner (CoreTogether word place join left statements right) = statement_row_inner statements
    core_inner (CoreSelect word left first rest right) = inner_both (in_branch type first) (in_branch_row type rest) (branch_inner first) (branch_row_inner rest)
    core_inner (CoreRepeat word left name count right statement) = inner_both (index_of type name) (in_statement type statement) (inner_index name) (statement_inner statement)
    core_inner (CoreIf word left condition right then_part) = statement_inner then_part
    core_inner (CoreIfElse word left condition right then_part else_place otherwise) = inner_both (in_statement type then_part) (in_statement type otherwise) (statement_inner then_part) (statement_inner otherwise)
    core_inner (CoreMatch word left expr right opening first rest close) = inner_both (in_arm type first) (in_arm_row type rest) (arm_inner first) (arm_row_inner rest)
    core_inner (CoreBind bind) = inner_none

    branch_inner : (t : BranchTree) → AreInner (in_branch type t)
    branch_inner (MakeBranch guard statement) = statement_inner statement

    arm_inner : (t : ArmTree) → AreInner (in_arm type t)
    arm_inner (MakeArm label colon statement) = statement_inner statement

    statement_row_inner : (t : StatementRow) → AreInner (in_statement_row type t)
    statement_row_inner NoStatementRow = inner_none
    statement_row_inner (MoreStatementRow head tail) = inner_both (in_statement type head) (in_statement_row type tail) (statement_inner head) (statement_row_inner tail)

    branch_row_inner : (t : BranchRow) → AreInner (in_branch_row type t)
    branch_row_inner NoBranchRow = inner_none
    branch_row_inner (MoreBranchRow head tail) = inner_both (in_branch type head) (in_branch_row type tail) (branch_inner head) (branch_row_inner tail)

    arm_row_inner : (t : ArmRow) → AreInner (in_arm_row type t)
    arm_row_inner NoArmRow = inner_none
    arm_row_inner (MoreArmRow head tail) = inner_both (in_arm type head) (in_arm_row type tail) (arm_inner head) (arm_row_inner tail)

  statements_inner : (ts : List StatementTree) → AreInner (flat_map (in_statement type) ts)
  statements_inner [] = inner_none
  statements_inner (x ∷ more) = inner_both (in_statement type x) (flat_map (in_statement type) more) (statement_inner x) (statements_inner more)

  pub activity_inner : (t : ActivityTree) → AreInner (in_activity type t)
  activity_inner (MakeActivity word left statements right) = statements_inner statements

  mutual
    body_statement_inner : (scope : Place) (t : BodyStatementTree) → AreInner (in_body_statement type scope t)
    body_statement_inner scope (BodyStatementEmpty place) = inner_none
    body_statement_inner scope (BodyStatementLocal plain name value semicolon) = inner_more _ [] refl inner_none
    body_statement_inner scope (BodyStatementAssign name equal source semicolon) = inner_none
    body_statement_inner scope (BodyStatementCall call semicolon) = inner_none
    body_statement_inner scope (BodyStatementBlock left statements right) = body_row_inner left statements
    body_statement_inner scope (BodyStatementIf word left condition right then_part) = body_statement_inner right then_part
    body_statement_inner scope (BodyStatementIfElse word left condition right then_part else_place otherwise) =
        inner_both (in_body_statement type right then_part) (in_body_statement type else_place otherwise) (body_statement_inner right then_part) (body_statement_inner else_place otherwise)
    body_statement_inner scope (BodyStatementRepeat word left name count right statement) = inner_both (index_of type name) (in_body_statement type right statement) (inner_index name) (body_statement_inner right statement)

    body_row_inner : (scope : Place) (t : BodyStatementRow) → AreInner (in_body_row type scope t)
    body_row_inner scope NoBodyStatementRow = inner_none
    body_row_inner scope (MoreBodyStatementRow head tail) = inner_both (in_body_statement type scope head) (in_body_row type scope tail) (body_statement_inner scope head) (body_row_inner scope tail)

  body_statements_inner : (scope : Place) (ts : List BodyStatementTree) → AreInner (flat_map (in_body_statement type scope) ts)
  body_statements_inner scope [] = inner_none
  body_statements_inner scope (x ∷ more) = inner_both (in_body_statement type scope x) (flat_map (in_body_statement type scope) more) (body_statement_inner scope x) (body_statements_inner scope more)

  pub body_inner : (t : BodyTree) → AreInner (in_body type t)
  body_inner (MakeBody exec_place body left statements right) = body_statements_inner left statements

-- ---- declarations

-- how a scope and the text round it fit together
pub data IsLevelled (d : Declaration) : Type 0 where
  -- an index or a local
  Inner : is_inner_sort d.sort ≡ true → IsLevelled d
  -- a component stands at file level
  OfFiles : d.sort ≡ sort.Component → d.scope ≡ Files → d.inside ≡ None → IsLevelled d
  -- all else in the scope of the type in whose text it stands, or at file level
  AtLevel : is_component d.sort ≡ false → d.scope ≡ level_of d.inside → IsLevelled d

at_level : (d e : Declaration) → d ≡ e → is_component d.sort ≡ false → d.scope ≡ level_of d.inside → IsLevelled e
at_level d e same is level = subst IsLevelled same (AtLevel is level)

module _ (type : Place) where
  field_levelled : (field : FieldTree) (d : Declaration) → In d (in_field type field) → IsLevelled d
  field_levelled field d there = let r = in_map (field_part type) (field_parts field) d there in by r.0 r.2
    where
      by : (p : PartTree) → field_part type p ≡ d → IsLevelled d
      by (MakePart name index) e = at_level (field_part type (MakePart name index)) d e refl refl

  constraint_levelled : (c : ConstraintDeclarationTree) (d : Declaration) → In d (in_constraint type c) → IsLevelled d
  constraint_levelled (MakeConstraintDeclaration word (ConstraintContentNamed name left items right)) d (inl e) = at_level (member type sort.Constraint name) d e refl refl
  constraint_levelled (MakeConstraintDeclaration word (ConstraintContentNamed name left items right)) d (inr there) = Inner (items_inner type items d there)
  constraint_levelled (MakeConstraintDeclaration word (ConstraintContentSet set)) d there = Inner (in_set_inner type set d there)

  action_part_levelled : (part : ActionPartTree) (d : Declaration) → In d (in_action_part type part) → IsLevelled d
  action_part_levelled (ActionPartField field) d there = field_levelled field d there
  action_part_levelled (ActionPartReference (MakeReference word place object names semicolon)) d there =
      let r = in_map (member type (sort.Reference object (is_output word))) (names_of names) d there in at_level (member type (sort.Reference object (is_output word)) r.0) d r.2 refl refl
  action_part_levelled (ActionPartClaim (MakeClaim word place object names semicolon)) d there =
      let r = in_map (member type (sort.Claim object)) (names_of names) d there in at_level (member type (sort.Claim object) r.0) d r.2 refl refl
  action_part_levelled (ActionPartMembers (MakeMembers of names semicolon)) d there = let r = in_map (member type (sort.Handle of)) (names_of names) d there in at_level (member type (sort.Handle of) r.0) d r.2 refl refl
  action_part_levelled (ActionPartConstraint constraint) d there = constraint_levelled constraint d there
  action_part_levelled (ActionPartActivity activity) d there = Inner (activity_inner type activity d there)
  action_part_levelled (ActionPartBody body) d there = Inner (body_inner type body d there)
  action_part_levelled (ActionPartEmpty place) d there = absurd there

  object_part_levelled : (part : ObjectPartTree) (d : Declaration) → In d (in_object_part type part) → IsLevelled d
  object_part_levelled (ObjectPartField field) d there = field_levelled field d there
  object_part_levelled (ObjectPartConstraint constraint) d there = constraint_levelled constraint d there
  object_part_levelled (ObjectPartEmpty place) d there = absurd there

action_levelled : (component : Place) (action : ActionTree) (d : Declaration) → In d (in_action component action) → IsLevelled d
action_levelled component (MakeAction abstract_place word name base left parts right) d (inl e) = at_level _ d e refl refl
action_levelled component (MakeAction abstract_place word name base left parts right) d (inr there) = let r = in_flat_map (in_action_part name.place) parts d there in action_part_levelled name.place r.0 d r.2

object_levelled : (component : Option Place) (object : ObjectTree) (d : Declaration) → In d (in_object component object) → IsLevelled d
object_levelled component (MakeObject word place name left parts right) d (inl e) = at_level (type_declared component (sort.Object word) name) d e refl refl
object_levelled component (MakeObject word place name left parts right) d (inr there) = let r = in_flat_map (in_object_part name.place) parts d there in object_part_levelled name.place r.0 d r.2

enum_levelled : (component : Option Place) (enum : EnumTree) (d : Declaration) → In d (in_enum component enum) → IsLevelled d
enum_levelled component (MakeEnum word name left first rest right) d (inl e) = at_level (type_declared component sort.Enumeration name) d e refl refl
enum_levelled component (MakeEnum word name left first rest right) d (inr there) =
    let r = in_map (λ i. member name.place (sort.Item (level_of component)) (item_name i)) (first ∷ map next_item rest) d there in at_level (member name.place (sort.Item (level_of component)) (item_name r.0)) d r.2 refl refl

function_levelled : (component : Option Place) (function : FunctionTree) (d : Declaration) → In d (in_function component function) → IsLevelled d
function_levelled component (MakeFunction import_place target_place word answer name left parameters right semicolon) d (inl e) = at_level (type_declared component sort.Function name) d e refl refl
function_levelled component (MakeFunction import_place target_place word answer name left parameters right semicolon) d (inr there) =
    let r = in_map (λ p. member name.place sort.Parameter (parameter_name p)) (parameters_of parameters) d there in at_level (member name.place sort.Parameter (parameter_name r.0)) d r.2 refl refl

members_levelled : (component : Place) (members : MembersTree) (d : Declaration) → In d (in_members component (λ of. sort.Instance of) members) → IsLevelled d
members_levelled component (MakeMembers of names semicolon) d there = let r = in_map (member component (sort.Instance of)) (names_of names) d there in at_level (member component (sort.Instance of) r.0) d r.2 refl refl

part_levelled : (component : Place) (part : ComponentPartTree) (d : Declaration) → In d (in_component_part component part) → IsLevelled d
part_levelled component (ComponentPartAction action) d there = action_levelled component action d there
part_levelled component (ComponentPartObject object) d there = object_levelled (Some component) object d there
part_levelled component (ComponentPartEnum enum) d there = enum_levelled (Some component) enum d there
part_levelled component (ComponentPartFunction function) d there = function_levelled (Some component) function d there
part_levelled component (ComponentPartPool (MakePool word size object name semicolon)) d (inl e) = at_level (member component (sort.Pool object) name) d e refl refl
part_levelled component (ComponentPartPool (MakePool word size object name semicolon)) d (inr there) = absurd there
part_levelled component (ComponentPartPoolBind bind) d there = absurd there
part_levelled component (ComponentPartMembers members) d there = members_levelled component members d there
part_levelled component (ComponentPartEmpty place) d there = absurd there

item_levelled : (item : ItemTree) (d : Declaration) → In d (in_item_of_unit item) → IsLevelled d
item_levelled (ItemComponent (MakeComponent word name left parts right)) d (inl e) = subst IsLevelled e (OfFiles refl refl refl)
item_levelled (ItemComponent (MakeComponent word name left parts right)) d (inr there) = let r = in_flat_map (in_component_part name.place) parts d there in part_levelled name.place r.0 d r.2
item_levelled (ItemObject object) d there = object_levelled None object d there
item_levelled (ItemEnum enum) d there = enum_levelled None enum d there
item_levelled (ItemFunction function) d there = function_levelled None function d there
item_levelled (ItemEmpty place) d there = absurd there

pub levelled : (units : List UnitTree) (d : Declaration) → In d (declarations units) → IsLevelled d
levelled units d there = let u = in_flat_map in_unit units d there in by u.0 u.2
  where
    by : (unit : UnitTree) → In d (in_unit unit) → IsLevelled d
    by (MakeUnit items finish) has = let r = in_flat_map in_item_of_unit items d has in item_levelled r.0 d r.2
