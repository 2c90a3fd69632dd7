-- The actions, functions and fields of the sources, each with the parts of its text.
use Rattle.std.specs.Prelude.{List, [], ◌∷◌, map, Bool, Option, Some, None, is_some}
use Rattle.std.specs.List.{find, flat_map}
use Rattle.pst_base.specs.declared.position.Place.{Place}
use Rattle.pst_ast.specs.declared.leaf.Name.{Name}
use Rattle.pst_ast.specs.ExpressionTree.{ExprTree, PartTree, MakePart, MaybeIndex, NoIndex, SomeIndex, MakeIndex}
use Rattle.pst_ast.specs.SharedTree.{TypeTree}
use Rattle.pst_ast.specs.DeclarationTree.{UnitTree, MakeUnit, ItemTree, ItemComponent, ItemObject, ItemFunction, MakeComponent, ComponentPartTree, ComponentPartAction, ComponentPartObject, ComponentPartFunction, ObjectTree, MakeObject, ObjectPartTree, ObjectPartField, FunctionTree, MakeFunction, AnswerTree, ParameterTree, ActionTree, MakeAction, ActionPartTree, ActionPartField, FieldTree, MakeField}
use Rattle.pst_ast.specs.declared.scope_declaration.Sort.TheVariants as sort
use Rattle.pst_ast.specs.declared.environment.Environment.{Environment}
use Rattle.pst_ast.specs.declared.referent.Owner.TheVariants.{OfAction, OfObject}
use Rattle.pst_ast.specs.Declarations.{type_declared, action_declared, field_parts, parameters_of}
use Rattle.pst_ast.specs.Sorts.{same_place}
use Rattle.pst_ast.specs.Uses.{environment}

pub record DeclaredAction : Type 0 where
  pub is_abstract : Bool
  pub name : Name
  pub parts : List ActionPartTree

pub record DeclaredFunction : Type 0 where
  pub answer : AnswerTree
  pub name : Name
  pub parameters : List ParameterTree

-- a field, with where its type and the size of an array stand
pub record DeclaredField : Type 0 where
  pub at : Environment
  pub type : TypeTree
  pub name : Name
  pub size : Option ExprTree

-- ---- actions

abbrev pub action_of : ActionTree → DeclaredAction
action_of (MakeAction abstract_place word name base left parts right) = record { is_abstract = is_some abstract_place; name = name; parts = parts }

abbrev pub actions_in_part : ComponentPartTree → List DeclaredAction
actions_in_part (ComponentPartAction action) = action_of action ∷ []
actions_in_part _ = []

abbrev pub actions_in_item : ItemTree → List DeclaredAction
actions_in_item (ItemComponent (MakeComponent word name left parts right)) = flat_map actions_in_part parts
actions_in_item _ = []

abbrev pub items_of : UnitTree → List ItemTree
items_of (MakeUnit items finish) = items

abbrev pub actions : List UnitTree → List DeclaredAction
actions units = flat_map actions_in_item (flat_map items_of units)

-- the action whose name stands at a place
unfoldable pub action_at : List UnitTree → Place → Option DeclaredAction
action_at units place = find (λ a. same_place a.name.place place) (actions units)

-- ---- functions

abbrev pub function_of : FunctionTree → DeclaredFunction
function_of (MakeFunction import_place target_place word answer name left parameters right semicolon) =
    record { answer = answer; name = name; parameters = parameters_of parameters }

abbrev pub functions_in_part : ComponentPartTree → List DeclaredFunction
functions_in_part (ComponentPartFunction function) = function_of function ∷ []
functions_in_part _ = []

abbrev pub functions_in_item : ItemTree → List DeclaredFunction
functions_in_item (ItemComponent (MakeComponent word name left parts right)) = flat_map functions_in_part parts
functions_in_item (ItemFunction function) = function_of function ∷ []
functions_in_item _ = []

abbrev pub functions : List UnitTree → List DeclaredFunction
functions units = flat_map functions_in_item (flat_map items_of units)

unfoldable pub function_at : List UnitTree → Place → Option DeclaredFunction
function_at units place = find (λ f. same_place f.name.place place) (functions units)

-- ---- fields

abbrev pub size_in : MaybeIndex → Option ExprTree
size_in NoIndex = None
size_in (SomeIndex (MakeIndex left expr right)) = Some expr

abbrev pub field_of_part : Environment → TypeTree → PartTree → DeclaredField
field_of_part at type (MakePart name index) = record { at = at; type = type; name = name; size = size_in index }

abbrev pub type_of_field : FieldTree → TypeTree
type_of_field (MakeField rand_place type first rest semicolon) = type

abbrev pub fields_of : Environment → FieldTree → List DeclaredField
fields_of at field = map (field_of_part at (type_of_field field)) (field_parts field)

abbrev pub fields_in_action_part : Environment → ActionPartTree → List DeclaredField
fields_in_action_part at (ActionPartField field) = fields_of at field
fields_in_action_part at _ = []

abbrev pub fields_in_object_part : Environment → ObjectPartTree → List DeclaredField
fields_in_object_part at (ObjectPartField field) = fields_of at field
fields_in_object_part at _ = []

abbrev pub fields_in_action : Place → ActionTree → List DeclaredField
fields_in_action component (MakeAction abstract_place word name base left parts right) =
    flat_map (fields_in_action_part (environment (Some component) (OfAction (action_declared component base name)))) parts

abbrev pub fields_in_object : Option Place → ObjectTree → List DeclaredField
fields_in_object component (MakeObject word place name left parts right) =
    flat_map (fields_in_object_part (environment component (OfObject (type_declared component (sort.Object word) name)))) parts

abbrev pub fields_in_part : Place → ComponentPartTree → List DeclaredField
fields_in_part component (ComponentPartAction action) = fields_in_action component action
fields_in_part component (ComponentPartObject object) = fields_in_object (Some component) object
fields_in_part component _ = []

abbrev pub fields_in_item : ItemTree → List DeclaredField
fields_in_item (ItemComponent (MakeComponent word name left parts right)) = flat_map (fields_in_part name.place) parts
fields_in_item (ItemObject object) = fields_in_object None object
fields_in_item _ = []

abbrev pub fields : List UnitTree → List DeclaredField
fields units = flat_map fields_in_item (flat_map items_of units)

unfoldable pub field_at : List UnitTree → Place → Option DeclaredField
field_at units place = find (λ f. same_place f.name.place place) (fields units)
