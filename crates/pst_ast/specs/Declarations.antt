-- What the sources declare, in the order of their text.
use Rattle.std.specs.Prelude.{List, [], ◌∷◌, ◌++◌, map, Bool, true, false, Option, Some, None}
use Rattle.std.specs.List.{flat_map}
use Rattle.std.specs.Option.{option_map}
use Rattle.pst_base.specs.declared.position.Place.{Place}
use Rattle.pst_ast.specs.declared.leaf.Name.{Name}
use Rattle.pst_ast.specs.declared.shared.LabelNode.{LabelNode}
use Rattle.pst_ast.specs.declared.shared.TypeName.{TypeName}
use Rattle.pst_ast.specs.declared.declaration.BaseNode.{BaseNode}
use Rattle.pst_ast.specs.ExpressionTree.{PartTree, MakePart, MaybeIndex, NoIndex, SomeIndex}
use Rattle.pst_ast.specs.SharedTree.{NamesTree, MakeNames}
use Rattle.pst_ast.specs.ConstraintTree.{ConstraintTree, ConstraintOne, ConstraintBlock, ConstraintItemTree, ConstraintItemEmpty, ConstraintItemExpr, ConstraintItemImplies, ConstraintItemIf, ConstraintItemIfElse, ConstraintItemUnique, ConstraintItemForeach, ConstraintItemRow, NoConstraintItemRow, MoreConstraintItemRow, ConstraintContentTree, ConstraintContentNamed, ConstraintContentSet, ConstraintDeclarationTree, MakeConstraintDeclaration}
use Rattle.pst_ast.specs.ActivityTree.{WithTree, WithNothing, WithSet, StatementTree, StatementEmpty, StatementLabeled, StatementPlain, CoreTree, CoreDo, CoreHandle, CoreSequence, CoreTogether, CoreSelect, CoreRepeat, CoreIf, CoreIfElse, CoreMatch, CoreBind, BranchTree, MakeBranch, ArmTree, MakeArm, StatementRow, NoStatementRow, MoreStatementRow, BranchRow, NoBranchRow, MoreBranchRow, ArmRow, NoArmRow, MoreArmRow, ActivityTree, MakeActivity}
use Rattle.pst_ast.specs.BodyTree.{BodyStatementTree, BodyStatementEmpty, BodyStatementLocal, BodyStatementAssign, BodyStatementCall, BodyStatementBlock, BodyStatementIf, BodyStatementIfElse, BodyStatementRepeat, BodyStatementRow, NoBodyStatementRow, MoreBodyStatementRow, BodyTree, MakeBody}
use Rattle.pst_ast.specs.DeclarationTree.{UnitTree, MakeUnit, ItemTree, ItemComponent, ItemObject, ItemEnum, ItemFunction, ItemEmpty, ComponentTree, MakeComponent, ComponentPartTree, ComponentPartAction, ComponentPartObject, ComponentPartEnum, ComponentPartFunction, ComponentPartPool, ComponentPartPoolBind, ComponentPartMembers, ComponentPartEmpty, ObjectTree, MakeObject, ObjectPartTree, ObjectPartField, ObjectPartConstraint, ObjectPartEmpty, EnumTree, MakeEnum, EnumItemTree, MakeEnumItem, NextEnumItemTree, MakeNextEnumItem, FunctionTree, MakeFunction, ParametersTree, MakeParameters, ParameterTree, MakeParameter, NextParameterTree, MakeNextParameter, PoolTree, MakePool, MembersTree, MakeMembers, ActionTree, MakeAction, ActionPartTree, ActionPartField, ActionPartReference, ActionPartClaim, ActionPartMembers, ActionPartConstraint, ActionPartActivity, ActionPartBody, ActionPartEmpty, FieldTree, MakeField, NextFieldTree, MakeNextField, ReferenceTree, MakeReference, ClaimTree, MakeClaim}
use Rattle.pst_ast.specs.declared.declaration.ReferenceWord.{ReferenceWord}
use Rattle.pst_ast.specs.declared.declaration.ReferenceWord.TheVariants as way
use Rattle.pst_ast.specs.declared.scope_declaration.Declaration.{Declaration}
use Rattle.pst_ast.specs.declared.scope_declaration.Scope.{Scope}
use Rattle.pst_ast.specs.declared.scope_declaration.Scope.TheVariants.{Files, Part}
use Rattle.pst_ast.specs.declared.scope_declaration.Sort.{Sort}
use Rattle.pst_ast.specs.declared.scope_declaration.Sort.TheVariants as sort

abbrev pub declared : Scope → Option Place → Sort → Name → Declaration
declared scope inside what name = record { name = name; scope = scope; inside = inside; sort = what }

-- a name in the scope of a type itself, which is named there
abbrev pub member : Place → Sort → Name → Declaration
member type what name = declared (Part type) (Some type) what name

-- an index, in the text of a type
abbrev pub index : Place → Name → Declaration
index type name = declared (Part name.place) (Some type) sort.Index name

-- NAME { "," NAME }
abbrev pub names_of : NamesTree → List Name
names_of (MakeNames first rest) = first ∷ map (λ n. n.name) rest

-- ---- indices of constraints and activities

abbrev pub index_of : Place → Option LabelNode → List Declaration
index_of type None = []
index_of type (Some label) = index type label.name ∷ []

abbrev mutual
  pub in_set : Place → ConstraintTree → List Declaration
  in_set type (ConstraintOne item) = in_item type item
  in_set type (ConstraintBlock left items right) = in_item_row type items

  pub in_item : Place → ConstraintItemTree → List Declaration
  in_item type (ConstraintItemEmpty place) = []
  in_item type (ConstraintItemExpr expr semicolon) = []
  in_item type (ConstraintItemImplies condition arrow set) = in_set type set
  in_item type (ConstraintItemIf word left condition right then_part) = in_set type then_part
  in_item type (ConstraintItemIfElse word left condition right then_part else_place otherwise) = in_set type then_part ++ in_set type otherwise
  in_item type (ConstraintItemUnique word left first rest right semicolon) = []
  in_item type (ConstraintItemForeach word left first rest opening name close right set) = index type name ∷ in_set type set

  pub in_item_row : Place → ConstraintItemRow → List Declaration
  in_item_row type NoConstraintItemRow = []
  in_item_row type (MoreConstraintItemRow head tail) = in_item type head ++ in_item_row type tail

abbrev pub in_with : Place → WithTree → List Declaration
in_with type (WithNothing place) = []
in_with type (WithSet with_place set) = in_set type set

abbrev mutual
  pub in_statement : Place → StatementTree → List Declaration
  in_statement type (StatementEmpty place) = []
  in_statement type (StatementLabeled label core) = in_core type core
  in_statement type (StatementPlain core) = in_core type core

  pub in_core : Place → CoreTree → List Declaration
  in_core type (CoreDo do_place name with_part) = in_with type with_part
  in_core type (CoreHandle name with_part) = in_with type with_part
  in_core type (CoreSequence word left statements right) = in_statement_row type statements
  in_core type (CoreTogether word place join left statements right) = in_statement_row type statements
  in_core type (CoreSelect word left first rest right) = in_branch type first ++ in_branch_row type rest
  in_core type (CoreRepeat word left name count right statement) = index_of type name ++ in_statement type statement
  in_core type (CoreIf word left condition right then_part) = in_statement type then_part
  in_core type (CoreIfElse word left condition right then_part else_place otherwise) = in_statement type then_part ++ in_statement type otherwise
  in_core type (CoreMatch word left expr right opening first rest close) = in_arm type first ++ in_arm_row type rest
  in_core type (CoreBind bind) = []

  pub in_branch : Place → BranchTree → List Declaration
  in_branch type (MakeBranch guard statement) = in_statement type statement

  pub in_arm : Place → ArmTree → List Declaration
  in_arm type (MakeArm label colon statement) = in_statement type statement

  pub in_statement_row : Place → StatementRow → List Declaration
  in_statement_row type NoStatementRow = []
  in_statement_row type (MoreStatementRow head tail) = in_statement type head ++ in_statement_row type tail

  pub in_branch_row : Place → BranchRow → List Declaration
  in_branch_row type NoBranchRow = []
  in_branch_row type (MoreBranchRow head tail) = in_branch type head ++ in_branch_row type tail

  pub in_arm_row : Place → ArmRow → List Declaration
  in_arm_row type NoArmRow = []
  in_arm_row type (MoreArmRow head tail) = in_arm type head ++ in_arm_row type tail

abbrev pub in_activity : Place → ActivityTree → List Declaration
in_activity type (MakeActivity activity left statements right) = flat_map (in_statement type) statements

-- ---- locals and indices of bodies

abbrev pub local : Place → Place → Name → Declaration
local type scope name = declared (Part scope) (Some type) sort.Local name

-- a body, each block of it and each part of an `if` or `repeat` is a scope of its own, named by a place where it begins
abbrev mutual
  pub in_body_statement : Place → Place → BodyStatementTree → List Declaration
  in_body_statement type scope (BodyStatementEmpty place) = []
  in_body_statement type scope (BodyStatementLocal plain name value semicolon) = local type scope name ∷ []
  in_body_statement type scope (BodyStatementAssign name equal source semicolon) = []
  in_body_statement type scope (BodyStatementCall call semicolon) = []
  in_body_statement type scope (BodyStatementBlock left statements right) = in_body_row type left statements
  in_body_statement type scope (BodyStatementIf word left condition right then_part) = in_body_statement type right then_part
  in_body_statement type scope (BodyStatementIfElse word left condition right then_part else_place otherwise) =
      in_body_statement type right then_part ++ in_body_statement type else_place otherwise
  in_body_statement type scope (BodyStatementRepeat word left name count right statement) = index_of type name ++ in_body_statement type right statement

  pub in_body_row : Place → Place → BodyStatementRow → List Declaration
  in_body_row type scope NoBodyStatementRow = []
  in_body_row type scope (MoreBodyStatementRow head tail) = in_body_statement type scope head ++ in_body_row type scope tail

abbrev pub in_body : Place → BodyTree → List Declaration
in_body type (MakeBody exec_place body left statements right) = flat_map (in_body_statement type left) statements

-- ---- members of actions and objects

abbrev pub has_index : MaybeIndex → Bool
has_index NoIndex = false
has_index (SomeIndex index) = true

abbrev pub field_part : Place → PartTree → Declaration
field_part type (MakePart name index) = member type (sort.Field (has_index index)) name

abbrev pub next_field_part : NextFieldTree → PartTree
next_field_part (MakeNextField comma part) = part

abbrev pub field_parts : FieldTree → List PartTree
field_parts (MakeField rand_place type first rest semicolon) = first ∷ map next_field_part rest

abbrev pub in_field : Place → FieldTree → List Declaration
in_field type field = map (field_part type) (field_parts field)

abbrev pub is_output : ReferenceWord → Bool
is_output way.Input = false
is_output way.Output = true

abbrev pub in_reference : Place → ReferenceTree → List Declaration
in_reference type (MakeReference word place object names semicolon) = map (member type (sort.Reference object (is_output word))) (names_of names)

abbrev pub in_claim : Place → ClaimTree → List Declaration
in_claim type (MakeClaim word place object names semicolon) = map (member type (sort.Claim object)) (names_of names)

abbrev pub in_constraint_content : Place → ConstraintContentTree → List Declaration
in_constraint_content type (ConstraintContentNamed name left items right) = member type sort.Constraint name ∷ flat_map (in_item type) items
in_constraint_content type (ConstraintContentSet set) = in_set type set

abbrev pub in_constraint : Place → ConstraintDeclarationTree → List Declaration
in_constraint type (MakeConstraintDeclaration word content) = in_constraint_content type content

-- handles in an action, instances in a component
abbrev pub in_members : Place → (TypeName → Sort) → MembersTree → List Declaration
in_members type what (MakeMembers of names semicolon) = map (member type (what of)) (names_of names)

abbrev pub in_action_part : Place → ActionPartTree → List Declaration
in_action_part type (ActionPartField field) = in_field type field
in_action_part type (ActionPartReference reference) = in_reference type reference
in_action_part type (ActionPartClaim claim) = in_claim type claim
in_action_part type (ActionPartMembers members) = in_members type (λ of. sort.Handle of) members
in_action_part type (ActionPartConstraint constraint) = in_constraint type constraint
in_action_part type (ActionPartActivity activity) = in_activity type activity
in_action_part type (ActionPartBody body) = in_body type body
in_action_part type (ActionPartEmpty place) = []

abbrev pub in_object_part : Place → ObjectPartTree → List Declaration
in_object_part type (ObjectPartField field) = in_field type field
in_object_part type (ObjectPartConstraint constraint) = in_constraint type constraint
in_object_part type (ObjectPartEmpty place) = []

-- ---- types, at file level or in the component that is named there

abbrev pub level_of : Option Place → Scope
level_of None = Files
level_of (Some component) = Part component

abbrev pub type_declared : Option Place → Sort → Name → Declaration
type_declared component what name = declared (level_of component) component what name

abbrev pub base_name : BaseNode → TypeName
base_name base = base.name

abbrev pub action_declared : Place → Option BaseNode → Name → Declaration
action_declared component base name = type_declared (Some component) (sort.Action (option_map base_name base)) name

abbrev pub in_action : Place → ActionTree → List Declaration
in_action component (MakeAction abstract_place word name base left parts right) =
    action_declared component base name ∷ flat_map (in_action_part name.place) parts

abbrev pub in_object : Option Place → ObjectTree → List Declaration
in_object component (MakeObject word place name left parts right) = type_declared component (sort.Object word) name ∷ flat_map (in_object_part name.place) parts

abbrev pub item_name : EnumItemTree → Name
item_name (MakeEnumItem name value) = name

abbrev pub next_item : NextEnumItemTree → EnumItemTree
next_item (MakeNextEnumItem comma item) = item

abbrev pub in_enum : Option Place → EnumTree → List Declaration
in_enum component (MakeEnum word name left first rest right) =
    type_declared component sort.Enumeration name
    ∷ map (λ i. member name.place (sort.Item (level_of component)) (item_name i)) (first ∷ map next_item rest)

abbrev pub parameter_name : ParameterTree → Name
parameter_name (MakeParameter input plain name) = name

abbrev pub next_parameter : NextParameterTree → ParameterTree
next_parameter (MakeNextParameter comma parameter) = parameter

abbrev pub parameters_of : Option ParametersTree → List ParameterTree
parameters_of None = []
parameters_of (Some (MakeParameters first rest)) = first ∷ map next_parameter rest

abbrev pub in_function : Option Place → FunctionTree → List Declaration
in_function component (MakeFunction import_place target_place word answer name left parameters right semicolon) =
    type_declared component sort.Function name ∷ map (λ p. member name.place sort.Parameter (parameter_name p)) (parameters_of parameters)

abbrev pub in_pool : Place → PoolTree → List Declaration
in_pool component (MakePool pool size object name semicolon) = member component (sort.Pool object) name ∷ []

abbrev pub in_component_part : Place → ComponentPartTree → List Declaration
in_component_part component (ComponentPartAction action) = in_action component action
in_component_part component (ComponentPartObject object) = in_object (Some component) object
in_component_part component (ComponentPartEnum enum) = in_enum (Some component) enum
in_component_part component (ComponentPartFunction function) = in_function (Some component) function
in_component_part component (ComponentPartPool pool) = in_pool component pool
in_component_part component (ComponentPartPoolBind bind) = []
in_component_part component (ComponentPartMembers members) = in_members component (λ of. sort.Instance of) members
in_component_part component (ComponentPartEmpty place) = []

abbrev pub in_component : ComponentTree → List Declaration
in_component (MakeComponent word name left parts right) = type_declared None sort.Component name ∷ flat_map (in_component_part name.place) parts

abbrev pub in_item_of_unit : ItemTree → List Declaration
in_item_of_unit (ItemComponent component) = in_component component
in_item_of_unit (ItemObject object) = in_object None object
in_item_of_unit (ItemEnum enum) = in_enum None enum
in_item_of_unit (ItemFunction function) = in_function None function
in_item_of_unit (ItemEmpty place) = []

abbrev pub in_unit : UnitTree → List Declaration
in_unit (MakeUnit items finish) = flat_map in_item_of_unit items

-- what the files together declare
abbrev pub declarations : List UnitTree → List Declaration
declarations units = flat_map in_unit units
