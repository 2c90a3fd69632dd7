-- What the trees of sources declare stands at their tokens, in the order of the text.
use Rattle.std.proofs.Common.{◌≡◌, inl, inr, refl}
use Rattle.std.specs.Prelude.{false, List, [], ◌∷◌, ◌++◌, map, Option, Some, None}
use Rattle.std.specs.List.{flat_map}
use Rattle.pst_base.specs.declared.position.Place.{Place}
use Rattle.pst_token.specs.declared.kind.Kind.TheVariants as kind
use Rattle.pst_token.specs.declared.token.Token.{Token}
use Rattle.pst_ast.specs.declared.shared.LabelNode.{LabelNode}
use Rattle.pst_ast.specs.declared.shared.NextName.{NextName}
use Rattle.pst_ast.specs.Marks.{mark, spell_option}
use Rattle.pst_ast.specs.ExpressionTree.{PartTree, MakePart}
use Rattle.pst_ast.specs.ExpressionSpelling.{spell_expr, spell_part}
use Rattle.pst_ast.specs.SharedTree.{NamesTree, MakeNames}
use Rattle.pst_ast.specs.SharedSpelling.{spell_next_name, spell_dot_name, spell_names, spell_label, spell_type_name, spell_plain, spell_type}
use Rattle.pst_ast.specs.ConstraintTree.{ConstraintTree, ConstraintOne, ConstraintBlock, ConstraintItemTree, ConstraintItemEmpty, ConstraintItemExpr, ConstraintItemImplies, ConstraintItemIf, ConstraintItemIfElse, ConstraintItemUnique, ConstraintItemForeach, ConstraintItemRow, NoConstraintItemRow, MoreConstraintItemRow, ConstraintContentNamed, ConstraintContentSet, ConstraintDeclarationTree, MakeConstraintDeclaration}
use Rattle.pst_ast.specs.ConstraintSpelling.{spell_constraint, spell_constraint_item, spell_constraint_item_row, spell_constraint_declaration}
use Rattle.pst_ast.specs.ActivityTree.{WithTree, WithNothing, WithSet, StatementTree, StatementEmpty, StatementLabeled, StatementPlain, CoreTree, CoreDo, CoreHandle, CoreSequence, CoreTogether, CoreSelect, CoreRepeat, CoreIf, CoreIfElse, CoreMatch, CoreBind, BranchTree, MakeBranch, ArmTree, MakeArm, StatementRow, NoStatementRow, MoreStatementRow, BranchRow, NoBranchRow, MoreBranchRow, ArmRow, NoArmRow, MoreArmRow, ActivityTree, MakeActivity}
use Rattle.pst_ast.specs.ActivitySpelling.{spell_with, spell_join, spell_bind, spell_guard, spell_arm_label, spell_statement, spell_core, spell_branch, spell_arm, spell_statement_row, spell_branch_row, spell_arm_row, spell_activity}
use Rattle.pst_ast.specs.BodyTree.{BodyStatementTree, BodyStatementEmpty, BodyStatementLocal, BodyStatementAssign, BodyStatementCall, BodyStatementBlock, BodyStatementIf, BodyStatementIfElse, BodyStatementRepeat, BodyStatementRow, NoBodyStatementRow, MoreBodyStatementRow, BodyTree, MakeBody}
use Rattle.pst_ast.specs.BodySpelling.{spell_value, spell_body_statement, spell_body_statement_row, spell_body}
use Rattle.pst_ast.specs.DeclarationTree.{UnitTree, MakeUnit, ItemTree, ItemComponent, ItemObject, ItemEnum, ItemFunction, ItemEmpty, MakeComponent, ComponentPartTree, ComponentPartAction, ComponentPartObject, ComponentPartEnum, ComponentPartFunction, ComponentPartPool, ComponentPartPoolBind, ComponentPartMembers, ComponentPartEmpty, ObjectTree, MakeObject, ObjectPartTree, ObjectPartField, ObjectPartConstraint, ObjectPartEmpty, FieldTree, MakeField, NextFieldTree, MakeNextField, EnumTree, MakeEnum, EnumItemTree, MakeEnumItem, NextEnumItemTree, MakeNextEnumItem, FunctionTree, MakeFunction, ParameterTree, MakeParameter, NextParameterTree, MakeNextParameter, ParametersTree, MakeParameters, MakePool, MakeMembers, MakeReference, MakeClaim, ActionTree, MakeAction, ActionPartTree, ActionPartField, ActionPartReference, ActionPartClaim, ActionPartMembers, ActionPartConstraint, ActionPartActivity, ActionPartBody, ActionPartEmpty}
use Rattle.pst_ast.specs.DeclarationSpelling.{spell_base, spell_next_field, spell_field, spell_action_part, spell_action, spell_object_part, spell_object, spell_enum_value, spell_enum_item, spell_next_enum_item, spell_enum, spell_answer, spell_parameter, spell_next_parameter, spell_parameters, spell_function, spell_size, spell_component_part, spell_item, spell_unit}
use Rattle.pst_ast.specs.declared.scope_declaration.Declaration.{Declaration}
use Rattle.pst_ast.specs.declared.scope_declaration.Sort.{Sort}
use Rattle.pst_ast.specs.declared.scope_declaration.Sort.TheVariants as sort
use Rattle.pst_ast.specs.Declarations.{member, level_of, type_declared, index, local, index_of, in_set, in_item, in_item_row, in_with, in_statement, in_core, in_branch, in_arm, in_statement_row, in_branch_row, in_arm_row, in_activity, in_body_statement, in_body_row, in_body, field_part, next_field_part, in_field, is_output, names_of, in_constraint, in_action_part, in_object_part, action_declared, in_action, in_object, item_name, next_item, in_enum, parameter_name, next_parameter, parameters_of, in_function, in_component_part, in_item_of_unit, in_unit, declarations}
use Rattle.pst_terms.specs.Readings.{is_inner_sort}
use Rattle.pst_sound_model.proofs.Laid.{IsLaid, laid_none, laid_skip, laid_one, laid_more, laid_both, laid_name, laid_outer, laid_flat, laid_scope}

abbrev pub Nowhere : Place → Type 0
Nowhere = λ p. ⊥

abbrev Laid : List Declaration → List Token → Type 0
Laid xs tokens = IsLaid Nowhere xs tokens

module _ (type : Place) where
  index_laid : {Round : Place → Type 0} (label : Option LabelNode) → IsLaid Round (index_of type label) (spell_option spell_label label)
  index_laid None = laid_none []
  index_laid (Some label) = laid_name (index type label.name) refl (λ i. inl refl) (laid_none (mark kind.Colon label.colon ∷ []))

  -- ---- constraints

  mutual
    set_laid : (c : ConstraintTree) → Laid (in_set type c) (spell_constraint c)
    set_laid (ConstraintOne item) = item_laid item
    set_laid (ConstraintBlock left items close) = laid_one (laid_more (mark kind.RightBrace close ∷ []) (row_laid items))

    item_laid : (c : ConstraintItemTree) → Laid (in_item type c) (spell_constraint_item c)
    item_laid (ConstraintItemEmpty place) = laid_none (mark kind.Semicolon place ∷ [])
    item_laid (ConstraintItemExpr expr semicolon) = laid_none (spell_expr expr ++ mark kind.Semicolon semicolon ∷ [])
    item_laid (ConstraintItemImplies condition arrow set) = laid_skip (spell_expr condition) (laid_one (set_laid set))
    item_laid (ConstraintItemIf word left condition close then_part) = laid_one (laid_one (laid_skip (spell_expr condition) (laid_one (set_laid then_part))))
    item_laid (ConstraintItemIfElse word left condition close then_part else_place otherwise) = laid_one (laid_one (laid_skip (spell_expr condition) (laid_one (laid_both (set_laid then_part) (laid_one (set_laid otherwise))))))
    item_laid (ConstraintItemUnique word left first rest close semicolon) = laid_none (spell_constraint_item (ConstraintItemUnique word left first rest close semicolon))
    item_laid (ConstraintItemForeach word left first rest opening name close end set) =
        laid_one (laid_one (laid_one (laid_skip (flat_map spell_dot_name rest) (laid_one (laid_name (index type name) refl (λ i. inl refl) (laid_one (laid_one (set_laid set))))))))

    row_laid : (c : ConstraintItemRow) → Laid (in_item_row type c) (spell_constraint_item_row c)
    row_laid NoConstraintItemRow = laid_none []
    row_laid (MoreConstraintItemRow head tail) = laid_both (item_laid head) (row_laid tail)

  constraint_laid : (c : ConstraintDeclarationTree) → Laid (in_constraint type c) (spell_constraint_declaration c)
  constraint_laid (MakeConstraintDeclaration word (ConstraintContentNamed name left items close)) =
      laid_one (laid_outer (member type sort.Constraint name) refl refl (laid_one (laid_more (mark kind.RightBrace close ∷ []) (laid_flat (in_item type) spell_constraint_item item_laid items))))
  constraint_laid (MakeConstraintDeclaration word (ConstraintContentSet set)) = laid_one (set_laid set)

  with_laid : (w : WithTree) → Laid (in_with type w) (spell_with w)
  with_laid (WithNothing place) = laid_none (mark kind.Semicolon place ∷ [])
  with_laid (WithSet with_place set) = laid_one (set_laid set)

  -- ---- activities

  mutual
    statement_laid : (t : StatementTree) → Laid (in_statement type t) (spell_statement t)
    statement_laid (StatementEmpty place) = laid_none (mark kind.Semicolon place ∷ [])
    statement_laid (StatementLabeled label core) = laid_skip (spell_label label) (core_laid core)
    statement_laid (StatementPlain core) = core_laid core

    core_laid : (t : CoreTree) → Laid (in_core type t) (spell_core t)
    core_laid (CoreDo do_place name with_part) = laid_one (laid_skip (spell_type_name name) (with_laid with_part))
    core_laid (CoreHandle name with_part) = laid_one (with_laid with_part)
    core_laid (CoreSequence word left statements close) = laid_skip (spell_option (λ p. mark kind.Sequence p ∷ []) word) (laid_one (laid_more (mark kind.RightBrace close ∷ []) (statement_row_laid statements)))
    core_laid (CoreTogether word place join left statements close) = laid_one (laid_skip (spell_option spell_join join) (laid_one (laid_more (mark kind.RightBrace close ∷ []) (statement_row_laid statements))))
    core_laid (CoreSelect word left first rest close) = laid_one (laid_one (laid_both (branch_laid first) (laid_more (mark kind.RightBrace close ∷ []) (branch_row_laid rest))))
    core_laid (CoreRepeat word left name count close statement) = laid_one (laid_one (laid_both (index_laid name) (laid_skip (spell_expr count) (laid_one (statement_laid statement)))))
    core_laid (CoreIf word left condition close then_part) = laid_one (laid_one (laid_skip (spell_expr condition) (laid_one (statement_laid then_part))))
    core_laid (CoreIfElse word left condition close then_part else_place otherwise) = laid_one (laid_one (laid_skip (spell_expr condition) (laid_one (laid_both (statement_laid then_part) (laid_one (statement_laid otherwise))))))
    core_laid (CoreMatch word left expr close opening first rest end) = laid_one (laid_one (laid_skip (spell_expr expr) (laid_one (laid_one (laid_both (arm_laid first) (laid_more (mark kind.RightBrace end ∷ []) (arm_row_laid rest)))))))
    core_laid (CoreBind bind) = laid_none (spell_bind bind)

    branch_laid : (t : BranchTree) → Laid (in_branch type t) (spell_branch t)
    branch_laid (MakeBranch guard statement) = laid_skip (spell_option spell_guard guard) (statement_laid statement)

    arm_laid : (t : ArmTree) → Laid (in_arm type t) (spell_arm t)
    arm_laid (MakeArm label colon statement) = laid_skip (spell_arm_label label) (laid_one (statement_laid statement))

    statement_row_laid : (t : StatementRow) → Laid (in_statement_row type t) (spell_statement_row t)
    statement_row_laid NoStatementRow = laid_none []
    statement_row_laid (MoreStatementRow head tail) = laid_both (statement_laid head) (statement_row_laid tail)

    branch_row_laid : (t : BranchRow) → Laid (in_branch_row type t) (spell_branch_row t)
    branch_row_laid NoBranchRow = laid_none []
    branch_row_laid (MoreBranchRow head tail) = laid_both (branch_laid head) (branch_row_laid tail)

    arm_row_laid : (t : ArmRow) → Laid (in_arm_row type t) (spell_arm_row t)
    arm_row_laid NoArmRow = laid_none []
    arm_row_laid (MoreArmRow head tail) = laid_both (arm_laid head) (arm_row_laid tail)

  activity_laid : (t : ActivityTree) → Laid (in_activity type t) (spell_activity t)
  activity_laid (MakeActivity word left statements close) = laid_one (laid_one (laid_more (mark kind.RightBrace close ∷ []) (laid_flat (in_statement type) spell_statement statement_laid statements)))

  -- ---- bodies: each statement within the scope that begins at a place

  abbrev Within : Place → List Declaration → List Token → Type 0
  Within scope xs tokens = IsLaid (λ p. p ≡ scope) xs tokens

  mutual
    body_statement_laid : (scope : Place) (t : BodyStatementTree) → Within scope (in_body_statement type scope t) (spell_body_statement t)
    body_statement_laid scope (BodyStatementEmpty place) = laid_none (mark kind.Semicolon place ∷ [])
    body_statement_laid scope (BodyStatementLocal plain name value semicolon) =
        laid_skip (spell_plain plain) (laid_name (local type scope name) refl (λ i. inr (scope, inl refl, refl)) (laid_none (spell_option spell_value value ++ mark kind.Semicolon semicolon ∷ [])))
    body_statement_laid scope (BodyStatementAssign name equal source semicolon) = laid_none (spell_body_statement (BodyStatementAssign name equal source semicolon))
    body_statement_laid scope (BodyStatementCall call semicolon) = laid_none (spell_body_statement (BodyStatementCall call semicolon))
    body_statement_laid scope (BodyStatementBlock left statements close) = laid_scope left refl (laid_more (mark kind.RightBrace close ∷ []) (body_row_laid left statements))
    body_statement_laid scope (BodyStatementIf word left condition close then_part) = laid_one (laid_one (laid_skip (spell_expr condition) (laid_scope close refl (body_statement_laid close then_part))))
    body_statement_laid scope (BodyStatementIfElse word left condition close then_part else_place otherwise) =
        laid_one (laid_one (laid_skip (spell_expr condition) (laid_both (laid_scope close refl (body_statement_laid close then_part)) (laid_scope else_place refl (body_statement_laid else_place otherwise)))))
    body_statement_laid scope (BodyStatementRepeat word left name count close statement) =
        laid_one (laid_one (laid_both (index_laid name) (laid_skip (spell_expr count) (laid_scope close refl (body_statement_laid close statement)))))

    body_row_laid : (scope : Place) (t : BodyStatementRow) → Within scope (in_body_row type scope t) (spell_body_statement_row t)
    body_row_laid scope NoBodyStatementRow = laid_none []
    body_row_laid scope (MoreBodyStatementRow head tail) = laid_both (body_statement_laid scope head) (body_row_laid scope tail)

  body_laid : (t : BodyTree) → Laid (in_body type t) (spell_body t)
  body_laid (MakeBody exec_place word left statements close) =
      laid_one (laid_one (laid_scope left refl (laid_more (mark kind.RightBrace close ∷ []) (laid_flat (in_body_statement type left) spell_body_statement (body_statement_laid left) statements))))

  -- ---- members

  -- several names of one sort
  names_laid : (so : Sort) → is_inner_sort so ≡ false → (names : NamesTree) → Laid (map (member type so) (names_of names)) (spell_names names)
  names_laid so outer (MakeNames first rest) = laid_outer (member type so first) refl outer (more rest)
    where
      more : (rest : List NextName) → Laid (map (member type so) (map (λ n. n.name) rest)) (flat_map spell_next_name rest)
      more [] = laid_none []
      more (n ∷ rest) = laid_one (laid_outer (member type so n.name) refl outer (more rest))

  part_laid : (p : PartTree) → Laid (field_part type p ∷ []) (spell_part p)
  part_laid (MakePart name i) = laid_outer (field_part type (MakePart name i)) refl refl (laid_none _)

  field_laid : (f : FieldTree) → Laid (in_field type f) (spell_field f)
  field_laid (MakeField rand_place of first rest semicolon) = laid_one (laid_skip (spell_type of) (laid_both (part_laid first) (laid_more (mark kind.Semicolon semicolon ∷ []) (more rest))))
    where
      more : (rest : List NextFieldTree) → Laid (map (field_part type) (map next_field_part rest)) (flat_map spell_next_field rest)
      more [] = laid_none []
      more (MakeNextField comma part ∷ rest) = laid_one (laid_both (part_laid part) (more rest))

  action_part_laid : (part : ActionPartTree) → Laid (in_action_part type part) (spell_action_part part)
  action_part_laid (ActionPartField field) = field_laid field
  action_part_laid (ActionPartReference (MakeReference word place object names semicolon)) =
      laid_one (laid_skip (spell_type_name object) (laid_more (mark kind.Semicolon semicolon ∷ []) (names_laid (sort.Reference object (is_output word)) refl names)))
  action_part_laid (ActionPartClaim (MakeClaim word place object names semicolon)) = laid_one (laid_skip (spell_type_name object) (laid_more (mark kind.Semicolon semicolon ∷ []) (names_laid (sort.Claim object) refl names)))
  action_part_laid (ActionPartMembers (MakeMembers of names semicolon)) = laid_skip (spell_type_name of) (laid_more (mark kind.Semicolon semicolon ∷ []) (names_laid (sort.Handle of) refl names))
  action_part_laid (ActionPartConstraint constraint) = constraint_laid constraint
  action_part_laid (ActionPartActivity activity) = activity_laid activity
  action_part_laid (ActionPartBody body) = body_laid body
  action_part_laid (ActionPartEmpty place) = laid_none (mark kind.Semicolon place ∷ [])

  object_part_laid : (part : ObjectPartTree) → Laid (in_object_part type part) (spell_object_part part)
  object_part_laid (ObjectPartField field) = field_laid field
  object_part_laid (ObjectPartConstraint constraint) = constraint_laid constraint
  object_part_laid (ObjectPartEmpty place) = laid_none (mark kind.Semicolon place ∷ [])

-- ---- types

action_laid : (component : Place) (action : ActionTree) → Laid (in_action component action) (spell_action action)
action_laid component (MakeAction abstract_place word name base left parts close) =
    laid_skip (spell_option (λ p. mark kind.Abstract p ∷ []) abstract_place)
    (laid_one (laid_outer (action_declared component base name) refl refl (laid_skip (spell_option spell_base base) (laid_one (laid_more (mark kind.RightBrace close ∷ []) (laid_flat (in_action_part name.place) spell_action_part (action_part_laid name.place) parts))))))

object_laid : (component : Option Place) (object : ObjectTree) → Laid (in_object component object) (spell_object object)
object_laid component (MakeObject word place name left parts close) =
    laid_one (laid_outer (type_declared component (sort.Object word) name) refl refl (laid_one (laid_more (mark kind.RightBrace close ∷ []) (laid_flat (in_object_part name.place) spell_object_part (object_part_laid name.place) parts))))

enum_item_laid : (enum : Place) (so : Sort) → is_inner_sort so ≡ false → (i : EnumItemTree) → Laid (member enum so (item_name i) ∷ []) (spell_enum_item i)
enum_item_laid enum so outer (MakeEnumItem name value) = laid_outer (member enum so name) refl outer (laid_none (spell_option spell_enum_value value))

enum_laid : (component : Option Place) (enum : EnumTree) → Laid (in_enum component enum) (spell_enum enum)
enum_laid component (MakeEnum word name left first rest close) =
    laid_one (laid_outer (type_declared component sort.Enumeration name) refl refl (laid_one (laid_both (enum_item_laid name.place (sort.Item (level_of component)) refl first) (laid_more (mark kind.RightBrace close ∷ []) (more rest)))))
  where
    more : (rest : List NextEnumItemTree) → Laid (map (λ i. member name.place (sort.Item (level_of component)) (item_name i)) (map next_item rest)) (flat_map spell_next_enum_item rest)
    more [] = laid_none []
    more (MakeNextEnumItem comma item ∷ rest) = laid_one (laid_both (enum_item_laid name.place (sort.Item (level_of component)) refl item) (more rest))

parameter_laid : (function : Place) (p : ParameterTree) → Laid (member function sort.Parameter (parameter_name p) ∷ []) (spell_parameter p)
parameter_laid function (MakeParameter input_place plain name) = laid_skip (spell_option (λ p. mark kind.Input p ∷ []) input_place) (laid_skip (spell_plain plain) (laid_outer (member function sort.Parameter name) refl refl (laid_none [])))

parameters_laid : (function : Place) (p : Option ParametersTree) → Laid (map (λ p. member function sort.Parameter (parameter_name p)) (parameters_of p)) (spell_option spell_parameters p)
parameters_laid function None = laid_none []
parameters_laid function (Some (MakeParameters first rest)) = laid_both (parameter_laid function first) (more rest)
  where
    more : (rest : List NextParameterTree) → Laid (map (λ p. member function sort.Parameter (parameter_name p)) (map next_parameter rest)) (flat_map spell_next_parameter rest)
    more [] = laid_none []
    more (MakeNextParameter comma parameter ∷ rest) = laid_one (laid_both (parameter_laid function parameter) (more rest))

function_laid : (component : Option Place) (function : FunctionTree) → Laid (in_function component function) (spell_function function)
function_laid component (MakeFunction import_place target_place word answer name left parameters close semicolon) =
    laid_one (laid_skip (spell_option (λ p. mark kind.Target p ∷ []) target_place) (laid_one (laid_skip (spell_answer answer)
    (laid_outer (type_declared component sort.Function name) refl refl (laid_one (laid_more (mark kind.RightParenthesis close ∷ mark kind.Semicolon semicolon ∷ []) (parameters_laid name.place parameters)))))))

component_part_laid : (component : Place) (part : ComponentPartTree) → Laid (in_component_part component part) (spell_component_part part)
component_part_laid component (ComponentPartAction action) = action_laid component action
component_part_laid component (ComponentPartObject object) = object_laid (Some component) object
component_part_laid component (ComponentPartEnum enum) = enum_laid (Some component) enum
component_part_laid component (ComponentPartFunction function) = function_laid (Some component) function
component_part_laid component (ComponentPartPool (MakePool word size object name semicolon)) =
    laid_one (laid_skip (spell_option spell_size size) (laid_skip (spell_type_name object) (laid_outer (member component (sort.Pool object) name) refl refl (laid_none (mark kind.Semicolon semicolon ∷ [])))))
component_part_laid component (ComponentPartPoolBind bind) = laid_none (spell_component_part (ComponentPartPoolBind bind))
component_part_laid component (ComponentPartMembers (MakeMembers of names semicolon)) = laid_skip (spell_type_name of) (laid_more (mark kind.Semicolon semicolon ∷ []) (names_laid component (sort.Instance of) refl names))
component_part_laid component (ComponentPartEmpty place) = laid_none (mark kind.Semicolon place ∷ [])

item_of_unit_laid : (item : ItemTree) → Laid (in_item_of_unit item) (spell_item item)
item_of_unit_laid (ItemComponent (MakeComponent word name left parts close)) =
    laid_one (laid_outer (type_declared None sort.Component name) refl refl (laid_one (laid_more (mark kind.RightBrace close ∷ []) (laid_flat (in_component_part name.place) spell_component_part (component_part_laid name.place) parts))))
item_of_unit_laid (ItemObject object) = object_laid None object
item_of_unit_laid (ItemEnum enum) = enum_laid None enum
item_of_unit_laid (ItemFunction function) = function_laid None function
item_of_unit_laid (ItemEmpty place) = laid_none (mark kind.Semicolon place ∷ [])

unit_laid : (unit : UnitTree) → Laid (in_unit unit) (spell_unit unit)
unit_laid (MakeUnit items finish) = laid_more (mark kind.End finish.place ∷ []) (laid_flat in_item_of_unit spell_item item_of_unit_laid items)

pub units_laid : (units : List UnitTree) → Laid (declarations units) (flat_map spell_unit units)
units_laid units = laid_flat in_unit spell_unit unit_laid units
