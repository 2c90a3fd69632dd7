-- The tokens of the trees of declaration.
use Rattle.std.specs.Prelude.{List, [], ◌∷◌, ◌++◌}
use Rattle.std.specs.List.{flat_map}
use Rattle.pst_token.specs.declared.token.Token.{Token}
use Rattle.pst_token.specs.declared.kind.Kind.TheVariants as kind
use Rattle.pst_ast.specs.Marks.{mark, name_token, spell_option, object_word_kind, reference_word_kind, claim_word_kind}
use Rattle.pst_ast.specs.ActivitySpelling.{spell_activity}
use Rattle.pst_ast.specs.BodySpelling.{spell_body}
use Rattle.pst_ast.specs.ConstraintSpelling.{spell_constraint_declaration}
use Rattle.pst_ast.specs.ExpressionSpelling.{spell_expr, spell_part}
use Rattle.pst_ast.specs.SharedSpelling.{spell_dot_name, spell_names, spell_plain, spell_type, spell_type_name}
use Rattle.pst_ast.specs.DeclarationTree.{UnitTree, MakeUnit, ItemTree, ItemComponent, ItemObject, ItemEnum, ItemFunction, ItemEmpty, ComponentTree, MakeComponent, ComponentPartTree, ComponentPartAction, ComponentPartObject, ComponentPartEnum, ComponentPartFunction, ComponentPartPool, ComponentPartPoolBind, ComponentPartMembers, ComponentPartEmpty, ObjectTree, MakeObject, ObjectPartTree, ObjectPartField, ObjectPartConstraint, ObjectPartEmpty, EnumTree, MakeEnum, EnumItemTree, MakeEnumItem, EnumValueTree, MakeEnumValue, NextEnumItemTree, MakeNextEnumItem, FunctionTree, MakeFunction, AnswerTree, AnswerVoid, AnswerPlain, ParametersTree, MakeParameters, ParameterTree, MakeParameter, NextParameterTree, MakeNextParameter, PoolTree, MakePool, SizeTree, MakeSize, PoolBindTree, MakePoolBind, TargetsTree, TargetsAll, TargetsOne, TargetsSeveral, TargetTree, MakeTarget, NextTargetTree, MakeNextTarget, MembersTree, MakeMembers, ActionTree, MakeAction, ActionPartTree, ActionPartField, ActionPartReference, ActionPartClaim, ActionPartMembers, ActionPartConstraint, ActionPartActivity, ActionPartBody, ActionPartEmpty, FieldTree, MakeField, NextFieldTree, MakeNextField, ReferenceTree, MakeReference, ClaimTree, MakeClaim}
use Rattle.pst_ast.specs.declared.declaration.BaseNode.{BaseNode}

-- ":" tname
abbrev pub spell_base : BaseNode → List Token
spell_base t = mark kind.Colon t.colon ∷ spell_type_name t.name

-- "," NAME [ index ]
abbrev pub spell_next_field : NextFieldTree → List Token
spell_next_field (MakeNextField comma_place part) = mark kind.Comma comma_place ∷ spell_part part

-- field = "rand" type NAME [ index ] { "," NAME [ index ] } ";"
abbrev pub spell_field : FieldTree → List Token
spell_field (MakeField rand_place field_type first rest semicolon_place) = mark kind.Rand rand_place ∷ (spell_type field_type ++ (spell_part first ++ (flat_map spell_next_field rest ++ mark kind.Semicolon semicolon_place ∷ [])))

-- ref = ("input"|"output") tname NAME { "," NAME } ";"
abbrev pub spell_reference : ReferenceTree → List Token
spell_reference (MakeReference word place object names semicolon_place) = mark (reference_word_kind word) place ∷ (spell_type_name object ++ (spell_names names ++ mark kind.Semicolon semicolon_place ∷ []))

-- claim = ("lock"|"share") tname NAME { "," NAME } ";"
abbrev pub spell_claim : ClaimTree → List Token
spell_claim (MakeClaim word place object names semicolon_place) = mark (claim_word_kind word) place ∷ (spell_type_name object ++ (spell_names names ++ mark kind.Semicolon semicolon_place ∷ []))

-- members = tname NAME { "," NAME } ";"
abbrev pub spell_members : MembersTree → List Token
spell_members (MakeMembers member_type names semicolon_place) = spell_type_name member_type ++ (spell_names names ++ mark kind.Semicolon semicolon_place ∷ [])

-- One part of action between its braces.
abbrev pub spell_action_part : ActionPartTree → List Token
spell_action_part (ActionPartField field) = spell_field field
spell_action_part (ActionPartReference reference) = spell_reference reference
spell_action_part (ActionPartClaim claim) = spell_claim claim
spell_action_part (ActionPartMembers members) = spell_members members
spell_action_part (ActionPartConstraint constraint_declaration) = spell_constraint_declaration constraint_declaration
spell_action_part (ActionPartActivity activity) = spell_activity activity
spell_action_part (ActionPartBody body) = spell_body body
spell_action_part (ActionPartEmpty place) = mark kind.Semicolon place ∷ []

-- action = ["abstract"] "action" NAME [ ":" tname ] "{" { field | ref | claim | members | constraint | activity | body | ";" } "}"
abbrev pub spell_action : ActionTree → List Token
spell_action (MakeAction abstract_place action_place name base left_brace_place parts right_brace_place) = spell_option (λ p. mark kind.Abstract p ∷ []) abstract_place ++ mark kind.Action action_place ∷ name_token name ∷ (spell_option spell_base base ++ mark kind.LeftBrace left_brace_place ∷ (flat_map spell_action_part parts ++ mark kind.RightBrace right_brace_place ∷ []))

-- One part of object between its braces.
abbrev pub spell_object_part : ObjectPartTree → List Token
spell_object_part (ObjectPartField field) = spell_field field
spell_object_part (ObjectPartConstraint constraint_declaration) = spell_constraint_declaration constraint_declaration
spell_object_part (ObjectPartEmpty place) = mark kind.Semicolon place ∷ []

-- object = ("buffer"|"stream"|"state"|"resource") NAME "{" { field | constraint | ";" } "}"
abbrev pub spell_object : ObjectTree → List Token
spell_object (MakeObject word place name left_brace_place parts right_brace_place) = mark (object_word_kind word) place ∷ name_token name ∷ mark kind.LeftBrace left_brace_place ∷ (flat_map spell_object_part parts ++ mark kind.RightBrace right_brace_place ∷ [])

-- "=" expr
abbrev pub spell_enum_value : EnumValueTree → List Token
spell_enum_value (MakeEnumValue equal_place expr) = mark kind.Equal equal_place ∷ spell_expr expr

-- eitem = NAME [ "=" expr ]
abbrev pub spell_enum_item : EnumItemTree → List Token
spell_enum_item (MakeEnumItem name value) = name_token name ∷ spell_option spell_enum_value value

-- "," eitem
abbrev pub spell_next_enum_item : NextEnumItemTree → List Token
spell_next_enum_item (MakeNextEnumItem comma_place item) = mark kind.Comma comma_place ∷ spell_enum_item item

-- enum = "enum" NAME "{" eitem { "," eitem } "}"
abbrev pub spell_enum : EnumTree → List Token
spell_enum (MakeEnum enum_place name left_brace_place first rest right_brace_place) = mark kind.Enum enum_place ∷ name_token name ∷ mark kind.LeftBrace left_brace_place ∷ (spell_enum_item first ++ (flat_map spell_next_enum_item rest ++ mark kind.RightBrace right_brace_place ∷ []))

-- "void" | plain
abbrev pub spell_answer : AnswerTree → List Token
spell_answer (AnswerVoid place) = mark kind.Void place ∷ []
spell_answer (AnswerPlain plain) = spell_plain plain

-- param = ["input"] plain NAME
abbrev pub spell_parameter : ParameterTree → List Token
spell_parameter (MakeParameter input_place plain name) = spell_option (λ p. mark kind.Input p ∷ []) input_place ++ (spell_plain plain ++ name_token name ∷ [])

-- "," param
abbrev pub spell_next_parameter : NextParameterTree → List Token
spell_next_parameter (MakeNextParameter comma_place parameter) = mark kind.Comma comma_place ∷ spell_parameter parameter

-- param { "," param }
abbrev pub spell_parameters : ParametersTree → List Token
spell_parameters (MakeParameters first rest) = spell_parameter first ++ flat_map spell_next_parameter rest

-- function = "import" ["target"] "function" ("void" | plain) NAME "(" [ param { "," param } ] ")" ";"
abbrev pub spell_function : FunctionTree → List Token
spell_function (MakeFunction import_place target_place function_place answer name left_parenthesis_place parameters right_parenthesis_place semicolon_place) = mark kind.Import import_place ∷ (spell_option (λ p. mark kind.Target p ∷ []) target_place ++ mark kind.Function function_place ∷ (spell_answer answer ++ name_token name ∷ mark kind.LeftParenthesis left_parenthesis_place ∷ (spell_option spell_parameters parameters ++ mark kind.RightParenthesis right_parenthesis_place ∷ mark kind.Semicolon semicolon_place ∷ [])))

-- "[" expr "]"
abbrev pub spell_size : SizeTree → List Token
spell_size (MakeSize left_bracket_place expr right_bracket_place) = mark kind.LeftBracket left_bracket_place ∷ (spell_expr expr ++ mark kind.RightBracket right_bracket_place ∷ [])

-- pool = "pool" [ "[" expr "]" ] tname NAME ";"
abbrev pub spell_pool : PoolTree → List Token
spell_pool (MakePool pool_place size object name semicolon_place) = mark kind.Pool pool_place ∷ (spell_option spell_size size ++ (spell_type_name object ++ name_token name ∷ mark kind.Semicolon semicolon_place ∷ []))

-- target = NAME "." NAME { "." NAME }
abbrev pub spell_target : TargetTree → List Token
spell_target (MakeTarget first second rest) = name_token first ∷ (spell_dot_name second ++ flat_map spell_dot_name rest)

-- "," target
abbrev pub spell_next_target : NextTargetTree → List Token
spell_next_target (MakeNextTarget comma_place target) = mark kind.Comma comma_place ∷ spell_target target

-- "*" | target | "{" target {"," target} "}"
abbrev pub spell_targets : TargetsTree → List Token
spell_targets (TargetsAll place) = mark kind.Star place ∷ []
spell_targets (TargetsOne target) = spell_target target
spell_targets (TargetsSeveral left_brace_place first rest right_brace_place) = mark kind.LeftBrace left_brace_place ∷ (spell_target first ++ (flat_map spell_next_target rest ++ mark kind.RightBrace right_brace_place ∷ []))

-- poolbind = "bind" NAME ( "*" | target | "{" target {"," target} "}" ) ";"
abbrev pub spell_pool_bind : PoolBindTree → List Token
spell_pool_bind (MakePoolBind bind_place pool targets semicolon_place) = mark kind.Bind bind_place ∷ name_token pool ∷ (spell_targets targets ++ mark kind.Semicolon semicolon_place ∷ [])

-- One part of component between its braces.
abbrev pub spell_component_part : ComponentPartTree → List Token
spell_component_part (ComponentPartAction action) = spell_action action
spell_component_part (ComponentPartObject object) = spell_object object
spell_component_part (ComponentPartEnum enum) = spell_enum enum
spell_component_part (ComponentPartFunction function) = spell_function function
spell_component_part (ComponentPartPool pool) = spell_pool pool
spell_component_part (ComponentPartPoolBind pool_bind) = spell_pool_bind pool_bind
spell_component_part (ComponentPartMembers members) = spell_members members
spell_component_part (ComponentPartEmpty place) = mark kind.Semicolon place ∷ []

-- component = "component" NAME "{" { action | object | enum | function | pool | poolbind | members | ";" } "}"
abbrev pub spell_component : ComponentTree → List Token
spell_component (MakeComponent component_place name left_brace_place parts right_brace_place) = mark kind.Component component_place ∷ name_token name ∷ mark kind.LeftBrace left_brace_place ∷ (flat_map spell_component_part parts ++ mark kind.RightBrace right_brace_place ∷ [])

-- One part of unit before its end.
abbrev pub spell_item : ItemTree → List Token
spell_item (ItemComponent component) = spell_component component
spell_item (ItemObject object) = spell_object object
spell_item (ItemEnum enum) = spell_enum enum
spell_item (ItemFunction function) = spell_function function
spell_item (ItemEmpty place) = mark kind.Semicolon place ∷ []

-- unit = { component | object | enum | function | ";" } END
abbrev pub spell_unit : UnitTree → List Token
spell_unit (MakeUnit items finish) = flat_map spell_item items ++ mark kind.End finish.place ∷ []
