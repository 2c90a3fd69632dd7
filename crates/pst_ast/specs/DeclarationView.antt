-- The trees of the program of declaration without where they lie in memory.
use Rattle.std.specs.Prelude.{map}
use Rattle.std.specs.Option.{option_map}
use Rattle.pst_ast.specs.ActivityView.{view_activity}
use Rattle.pst_ast.specs.BodyView.{view_body}
use Rattle.pst_ast.specs.ConstraintView.{view_constraint_declaration}
use Rattle.pst_ast.specs.ExpressionView.{view_expr, view_part}
use Rattle.pst_ast.specs.SharedView.{view_names, view_plain, view_type}
use Rattle.pst_ast.specs.DeclarationTree.{UnitTree, MakeUnit, ItemTree, ItemComponent, ItemObject, ItemEnum, ItemFunction, ItemEmpty, ComponentTree, MakeComponent, ComponentPartTree, ComponentPartAction, ComponentPartObject, ComponentPartEnum, ComponentPartFunction, ComponentPartPool, ComponentPartPoolBind, ComponentPartMembers, ComponentPartEmpty, ObjectTree, MakeObject, ObjectPartTree, ObjectPartField, ObjectPartConstraint, ObjectPartEmpty, EnumTree, MakeEnum, EnumItemTree, MakeEnumItem, EnumValueTree, MakeEnumValue, NextEnumItemTree, MakeNextEnumItem, FunctionTree, MakeFunction, AnswerTree, AnswerVoid, AnswerPlain, ParametersTree, MakeParameters, ParameterTree, MakeParameter, NextParameterTree, MakeNextParameter, PoolTree, MakePool, SizeTree, MakeSize, PoolBindTree, MakePoolBind, TargetsTree, TargetsAll, TargetsOne, TargetsSeveral, TargetTree, MakeTarget, NextTargetTree, MakeNextTarget, MembersTree, MakeMembers, ActionTree, MakeAction, ActionPartTree, ActionPartField, ActionPartReference, ActionPartClaim, ActionPartMembers, ActionPartConstraint, ActionPartActivity, ActionPartBody, ActionPartEmpty, FieldTree, MakeField, NextFieldTree, MakeNextField, ReferenceTree, MakeReference, ClaimTree, MakeClaim}
use Rattle.pst_ast.specs.declared.declaration.Unit.{Unit}
use Rattle.pst_ast.specs.declared.declaration.Item.{Item}
use Rattle.pst_ast.specs.declared.declaration.Item.TheVariants as the_item
use Rattle.pst_ast.specs.declared.declaration.ComponentNode.{ComponentNode}
use Rattle.pst_ast.specs.declared.declaration.ComponentPart.{ComponentPart}
use Rattle.pst_ast.specs.declared.declaration.ComponentPart.TheVariants as the_component_part
use Rattle.pst_ast.specs.declared.declaration.ObjectNode.{ObjectNode}
use Rattle.pst_ast.specs.declared.declaration.ObjectPart.{ObjectPart}
use Rattle.pst_ast.specs.declared.declaration.ObjectPart.TheVariants as the_object_part
use Rattle.pst_ast.specs.declared.declaration.EnumNode.{EnumNode}
use Rattle.pst_ast.specs.declared.declaration.EnumItem.{EnumItem}
use Rattle.pst_ast.specs.declared.declaration.EnumValue.{EnumValue}
use Rattle.pst_ast.specs.declared.declaration.NextEnumItem.{NextEnumItem}
use Rattle.pst_ast.specs.declared.declaration.FunctionNode.{FunctionNode}
use Rattle.pst_ast.specs.declared.declaration.AnswerNode.{AnswerNode}
use Rattle.pst_ast.specs.declared.declaration.AnswerNode.TheVariants as the_answer
use Rattle.pst_ast.specs.declared.declaration.ParametersNode.{ParametersNode}
use Rattle.pst_ast.specs.declared.declaration.ParameterNode.{ParameterNode}
use Rattle.pst_ast.specs.declared.declaration.NextParameter.{NextParameter}
use Rattle.pst_ast.specs.declared.declaration.PoolNode.{PoolNode}
use Rattle.pst_ast.specs.declared.declaration.SizeNode.{SizeNode}
use Rattle.pst_ast.specs.declared.declaration.PoolBindNode.{PoolBindNode}
use Rattle.pst_ast.specs.declared.declaration.TargetsNode.{TargetsNode}
use Rattle.pst_ast.specs.declared.declaration.TargetsNode.TheVariants as the_targets
use Rattle.pst_ast.specs.declared.declaration.TargetNode.{TargetNode}
use Rattle.pst_ast.specs.declared.declaration.NextTarget.{NextTarget}
use Rattle.pst_ast.specs.declared.declaration.MembersNode.{MembersNode}
use Rattle.pst_ast.specs.declared.declaration.ActionNode.{ActionNode}
use Rattle.pst_ast.specs.declared.declaration.ActionPart.{ActionPart}
use Rattle.pst_ast.specs.declared.declaration.ActionPart.TheVariants as the_action_part
use Rattle.pst_ast.specs.declared.declaration.FieldNode.{FieldNode}
use Rattle.pst_ast.specs.declared.declaration.NextField.{NextField}
use Rattle.pst_ast.specs.declared.declaration.ReferenceNode.{ReferenceNode}
use Rattle.pst_ast.specs.declared.declaration.ClaimNode.{ClaimNode}

-- "," NAME [ index ]
abbrev pub view_next_field : NextField → NextFieldTree
view_next_field t = MakeNextField t.comma (view_part t.part)

-- field = "rand" type NAME [ index ] { "," NAME [ index ] } ";"
abbrev pub view_field : FieldNode → FieldTree
view_field t = MakeField t.rand (view_type t.field_type) (view_part t.first) (map view_next_field t.rest.items) t.semicolon

-- ref = ("input"|"output") tname NAME { "," NAME } ";"
abbrev pub view_reference : ReferenceNode → ReferenceTree
view_reference t = MakeReference t.word t.place t.object (view_names t.names) t.semicolon

-- claim = ("lock"|"share") tname NAME { "," NAME } ";"
abbrev pub view_claim : ClaimNode → ClaimTree
view_claim t = MakeClaim t.word t.place t.object (view_names t.names) t.semicolon

-- members = tname NAME { "," NAME } ";"
abbrev pub view_members : MembersNode → MembersTree
view_members t = MakeMembers t.member_type (view_names t.names) t.semicolon

-- One part of action between its braces.
abbrev pub view_action_part : ActionPart → ActionPartTree
view_action_part (the_action_part.Field field) = ActionPartField (view_field field.value)
view_action_part (the_action_part.Reference reference) = ActionPartReference (view_reference reference.value)
view_action_part (the_action_part.Claim claim) = ActionPartClaim (view_claim claim.value)
view_action_part (the_action_part.Members members) = ActionPartMembers (view_members members.value)
view_action_part (the_action_part.Constraint constraint_declaration) = ActionPartConstraint (view_constraint_declaration constraint_declaration.value)
view_action_part (the_action_part.Activity activity) = ActionPartActivity (view_activity activity.value)
view_action_part (the_action_part.Body body) = ActionPartBody (view_body body.value)
view_action_part (the_action_part.Empty place) = ActionPartEmpty place

-- action = ["abstract"] "action" NAME [ ":" tname ] "{" { field | ref | claim | members | constraint | activity | body | ";" } "}"
abbrev pub view_action : ActionNode → ActionTree
view_action t = MakeAction t.abstract_ t.action t.name t.base t.left_brace (map view_action_part t.parts.items) t.right_brace

-- One part of object between its braces.
abbrev pub view_object_part : ObjectPart → ObjectPartTree
view_object_part (the_object_part.Field field) = ObjectPartField (view_field field.value)
view_object_part (the_object_part.Constraint constraint_declaration) = ObjectPartConstraint (view_constraint_declaration constraint_declaration.value)
view_object_part (the_object_part.Empty place) = ObjectPartEmpty place

-- object = ("buffer"|"stream"|"state"|"resource") NAME "{" { field | constraint | ";" } "}"
abbrev pub view_object : ObjectNode → ObjectTree
view_object t = MakeObject t.word t.place t.name t.left_brace (map view_object_part t.parts.items) t.right_brace

-- "=" expr
abbrev pub view_enum_value : EnumValue → EnumValueTree
view_enum_value t = MakeEnumValue t.equal (view_expr t.expr)

-- eitem = NAME [ "=" expr ]
abbrev pub view_enum_item : EnumItem → EnumItemTree
view_enum_item t = MakeEnumItem t.name (option_map view_enum_value t.value)

-- "," eitem
abbrev pub view_next_enum_item : NextEnumItem → NextEnumItemTree
view_next_enum_item t = MakeNextEnumItem t.comma (view_enum_item t.item)

-- enum = "enum" NAME "{" eitem { "," eitem } "}"
abbrev pub view_enum : EnumNode → EnumTree
view_enum t = MakeEnum t.enum_ t.name t.left_brace (view_enum_item t.first) (map view_next_enum_item t.rest.items) t.right_brace

-- "void" | plain
abbrev pub view_answer : AnswerNode → AnswerTree
view_answer (the_answer.Void place) = AnswerVoid place
view_answer (the_answer.Plain plain) = AnswerPlain (view_plain plain)

-- param = ["input"] plain NAME
abbrev pub view_parameter : ParameterNode → ParameterTree
view_parameter t = MakeParameter t.input (view_plain t.plain) t.name

-- "," param
abbrev pub view_next_parameter : NextParameter → NextParameterTree
view_next_parameter t = MakeNextParameter t.comma (view_parameter t.parameter)

-- param { "," param }
abbrev pub view_parameters : ParametersNode → ParametersTree
view_parameters t = MakeParameters (view_parameter t.first) (map view_next_parameter t.rest.items)

-- function = "import" ["target"] "function" ("void" | plain) NAME "(" [ param { "," param } ] ")" ";"
abbrev pub view_function : FunctionNode → FunctionTree
view_function t = MakeFunction t.import t.target t.function (view_answer t.answer) t.name t.left_parenthesis (option_map view_parameters t.parameters) t.right_parenthesis t.semicolon

-- "[" expr "]"
abbrev pub view_size : SizeNode → SizeTree
view_size t = MakeSize t.left_bracket (view_expr t.expr) t.right_bracket

-- pool = "pool" [ "[" expr "]" ] tname NAME ";"
abbrev pub view_pool : PoolNode → PoolTree
view_pool t = MakePool t.pool (option_map view_size t.size) t.object t.name t.semicolon

-- target = NAME "." NAME { "." NAME }
abbrev pub view_target : TargetNode → TargetTree
view_target t = MakeTarget t.first t.second t.rest.items

-- "," target
abbrev pub view_next_target : NextTarget → NextTargetTree
view_next_target t = MakeNextTarget t.comma (view_target t.target)

-- "*" | target | "{" target {"," target} "}"
abbrev pub view_targets : TargetsNode → TargetsTree
view_targets (the_targets.All place) = TargetsAll place
view_targets (the_targets.One target) = TargetsOne (view_target target)
view_targets (the_targets.Several left_brace_place first rest right_brace_place) = TargetsSeveral left_brace_place (view_target first) (map view_next_target rest.items) right_brace_place

-- poolbind = "bind" NAME ( "*" | target | "{" target {"," target} "}" ) ";"
abbrev pub view_pool_bind : PoolBindNode → PoolBindTree
view_pool_bind t = MakePoolBind t.bind t.pool (view_targets t.targets) t.semicolon

-- One part of component between its braces.
abbrev pub view_component_part : ComponentPart → ComponentPartTree
view_component_part (the_component_part.Action action) = ComponentPartAction (view_action action.value)
view_component_part (the_component_part.Object object) = ComponentPartObject (view_object object.value)
view_component_part (the_component_part.Enum enum) = ComponentPartEnum (view_enum enum.value)
view_component_part (the_component_part.Function function) = ComponentPartFunction (view_function function.value)
view_component_part (the_component_part.Pool pool) = ComponentPartPool (view_pool pool.value)
view_component_part (the_component_part.PoolBind pool_bind) = ComponentPartPoolBind (view_pool_bind pool_bind.value)
view_component_part (the_component_part.Members members) = ComponentPartMembers (view_members members.value)
view_component_part (the_component_part.Empty place) = ComponentPartEmpty place

-- component = "component" NAME "{" { action | object | enum | function | pool | poolbind | members | ";" } "}"
abbrev pub view_component : ComponentNode → ComponentTree
view_component t = MakeComponent t.component t.name t.left_brace (map view_component_part t.parts.items) t.right_brace

-- One part of unit before its end.
abbrev pub view_item : Item → ItemTree
view_item (the_item.Component component) = ItemComponent (view_component component.value)
view_item (the_item.Object object) = ItemObject (view_object object.value)
view_item (the_item.Enum enum) = ItemEnum (view_enum enum.value)
view_item (the_item.Function function) = ItemFunction (view_function function.value)
view_item (the_item.Empty place) = ItemEmpty place

-- unit = { component | object | enum | function | ";" } END
abbrev pub view_unit : Unit → UnitTree
view_unit t = MakeUnit (map view_item t.items.items) t.finish
