-- What counts towards the limits at each token of the trees of declarations; depth derivations that count are open round the tree.
use Rattle.std.specs.Prelude.{ℕ, suc, List, [], ◌∷◌, ◌++◌}
use Rattle.std.specs.List.{flat_map}
use Rattle.pst_ast.specs.DeclarationTree.{UnitTree, MakeUnit, ItemTree, ItemComponent, ItemObject, ItemEnum, ItemFunction, ItemEmpty, ComponentTree, MakeComponent, ComponentPartTree, ComponentPartAction, ComponentPartObject, ComponentPartEnum, ComponentPartFunction, ComponentPartPool, ComponentPartPoolBind, ComponentPartMembers, ComponentPartEmpty, ObjectTree, MakeObject, ObjectPartTree, ObjectPartField, ObjectPartConstraint, ObjectPartEmpty, EnumTree, MakeEnum, EnumItemTree, MakeEnumItem, EnumValueTree, MakeEnumValue, NextEnumItemTree, MakeNextEnumItem, FunctionTree, MakeFunction, AnswerTree, AnswerVoid, AnswerPlain, ParametersTree, MakeParameters, ParameterTree, MakeParameter, NextParameterTree, MakeNextParameter, PoolTree, MakePool, SizeTree, MakeSize, PoolBindTree, MakePoolBind, TargetsTree, TargetsAll, TargetsOne, TargetsSeveral, TargetTree, MakeTarget, NextTargetTree, MakeNextTarget, MembersTree, MakeMembers, ActionTree, MakeAction, ActionPartTree, ActionPartField, ActionPartReference, ActionPartClaim, ActionPartMembers, ActionPartConstraint, ActionPartActivity, ActionPartBody, ActionPartEmpty, FieldTree, MakeField, NextFieldTree, MakeNextField, ReferenceTree, MakeReference, ClaimTree, MakeClaim}
use Rattle.pst_ast.specs.declared.declaration.BaseNode.{BaseNode}
use Rattle.pst_ast.specs.Limits.{Count, counted, counts_option}
use Rattle.pst_ast.specs.ActivityLimits.{counts_activity}
use Rattle.pst_ast.specs.BodyLimits.{counts_body}
use Rattle.pst_ast.specs.ConstraintLimits.{counts_constraint_declaration}
use Rattle.pst_ast.specs.ExpressionLimits.{counts_expr, counts_part}
use Rattle.pst_ast.specs.SharedLimits.{counts_dot_name, counts_names, counts_plain, counts_type, counts_type_name}

-- ":" tname
abbrev pub counts_base : ℕ → BaseNode → List Count
counts_base depth t = counted depth 0 ∷ counts_type_name depth t.name

-- "," NAME [ index ]
abbrev pub counts_next_field : ℕ → NextFieldTree → List Count
counts_next_field depth (MakeNextField comma_place part) = counted depth 0 ∷ counts_part depth 0 part

-- field = "rand" type NAME [ index ] { "," NAME [ index ] } ";"
abbrev pub counts_field : ℕ → FieldTree → List Count
counts_field depth (MakeField rand_place field_type first rest semicolon_place) = counted depth 0 ∷ (counts_type depth field_type ++ (counts_part depth 0 first ++ (flat_map (counts_next_field depth) rest ++ counted depth 0 ∷ [])))

-- ref = ("input"|"output") tname NAME { "," NAME } ";"
abbrev pub counts_reference : ℕ → ReferenceTree → List Count
counts_reference depth (MakeReference word place object names semicolon_place) = counted depth 0 ∷ (counts_type_name depth object ++ (counts_names depth names ++ counted depth 0 ∷ []))

-- claim = ("lock"|"share") tname NAME { "," NAME } ";"
abbrev pub counts_claim : ℕ → ClaimTree → List Count
counts_claim depth (MakeClaim word place object names semicolon_place) = counted depth 0 ∷ (counts_type_name depth object ++ (counts_names depth names ++ counted depth 0 ∷ []))

-- members = tname NAME { "," NAME } ";"
abbrev pub counts_members : ℕ → MembersTree → List Count
counts_members depth (MakeMembers member_type names semicolon_place) = counts_type_name depth member_type ++ (counts_names depth names ++ counted depth 0 ∷ [])

-- One part of action between its braces.
abbrev pub counts_action_part : ℕ → ActionPartTree → List Count
counts_action_part depth (ActionPartField field) = counts_field depth field
counts_action_part depth (ActionPartReference reference) = counts_reference depth reference
counts_action_part depth (ActionPartClaim claim) = counts_claim depth claim
counts_action_part depth (ActionPartMembers members) = counts_members depth members
counts_action_part depth (ActionPartConstraint constraint_declaration) = counts_constraint_declaration depth constraint_declaration
counts_action_part depth (ActionPartActivity activity) = counts_activity depth activity
counts_action_part depth (ActionPartBody body) = counts_body depth body
counts_action_part depth (ActionPartEmpty place) = counted depth 0 ∷ []

-- action = ["abstract"] "action" NAME [ ":" tname ] "{" { field | ref | claim | members | constraint | activity | body | ";" } "}"
abbrev pub counts_action : ℕ → ActionTree → List Count
counts_action depth (MakeAction abstract_place action_place name base left_brace_place parts right_brace_place) = counts_option (λ p. counted (suc depth) 0 ∷ []) abstract_place ++ counted (suc depth) 0 ∷ counted (suc depth) 0 ∷ (counts_option (counts_base (suc depth)) base ++ counted (suc depth) 0 ∷ (flat_map (counts_action_part (suc depth)) parts ++ counted (suc depth) 0 ∷ []))

-- One part of object between its braces.
abbrev pub counts_object_part : ℕ → ObjectPartTree → List Count
counts_object_part depth (ObjectPartField field) = counts_field depth field
counts_object_part depth (ObjectPartConstraint constraint_declaration) = counts_constraint_declaration depth constraint_declaration
counts_object_part depth (ObjectPartEmpty place) = counted depth 0 ∷ []

-- object = ("buffer"|"stream"|"state"|"resource") NAME "{" { field | constraint | ";" } "}"
abbrev pub counts_object : ℕ → ObjectTree → List Count
counts_object depth (MakeObject word place name left_brace_place parts right_brace_place) = counted depth 0 ∷ counted depth 0 ∷ counted depth 0 ∷ (flat_map (counts_object_part depth) parts ++ counted depth 0 ∷ [])

-- "=" expr
abbrev pub counts_enum_value : ℕ → EnumValueTree → List Count
counts_enum_value depth (MakeEnumValue equal_place expr) = counted depth 0 ∷ counts_expr depth 0 expr

-- eitem = NAME [ "=" expr ]
abbrev pub counts_enum_item : ℕ → EnumItemTree → List Count
counts_enum_item depth (MakeEnumItem name value) = counted depth 0 ∷ counts_option (counts_enum_value depth) value

-- "," eitem
abbrev pub counts_next_enum_item : ℕ → NextEnumItemTree → List Count
counts_next_enum_item depth (MakeNextEnumItem comma_place item) = counted depth 0 ∷ counts_enum_item depth item

-- enum = "enum" NAME "{" eitem { "," eitem } "}"
abbrev pub counts_enum : ℕ → EnumTree → List Count
counts_enum depth (MakeEnum enum_place name left_brace_place first rest right_brace_place) = counted depth 0 ∷ counted depth 0 ∷ counted depth 0 ∷ (counts_enum_item depth first ++ (flat_map (counts_next_enum_item depth) rest ++ counted depth 0 ∷ []))

-- "void" | plain
abbrev pub counts_answer : ℕ → AnswerTree → List Count
counts_answer depth (AnswerVoid place) = counted depth 0 ∷ []
counts_answer depth (AnswerPlain plain) = counts_plain depth plain

-- param = ["input"] plain NAME
abbrev pub counts_parameter : ℕ → ParameterTree → List Count
counts_parameter depth (MakeParameter input_place plain name) = counts_option (λ p. counted depth 0 ∷ []) input_place ++ (counts_plain depth plain ++ counted depth 0 ∷ [])

-- "," param
abbrev pub counts_next_parameter : ℕ → NextParameterTree → List Count
counts_next_parameter depth (MakeNextParameter comma_place parameter) = counted depth 0 ∷ counts_parameter depth parameter

-- param { "," param }
abbrev pub counts_parameters : ℕ → ParametersTree → List Count
counts_parameters depth (MakeParameters first rest) = counts_parameter depth first ++ flat_map (counts_next_parameter depth) rest

-- function = "import" ["target"] "function" ("void" | plain) NAME "(" [ param { "," param } ] ")" ";"
abbrev pub counts_function : ℕ → FunctionTree → List Count
counts_function depth (MakeFunction import_place target_place function_place answer name left_parenthesis_place parameters right_parenthesis_place semicolon_place) = counted depth 0 ∷ (counts_option (λ p. counted depth 0 ∷ []) target_place ++ counted depth 0 ∷ (counts_answer depth answer ++ counted depth 0 ∷ counted depth 0 ∷ (counts_option (counts_parameters depth) parameters ++ counted depth 0 ∷ counted depth 0 ∷ [])))

-- "[" expr "]"
abbrev pub counts_size : ℕ → SizeTree → List Count
counts_size depth (MakeSize left_bracket_place expr right_bracket_place) = counted depth 0 ∷ (counts_expr depth 0 expr ++ counted depth 0 ∷ [])

-- pool = "pool" [ "[" expr "]" ] tname NAME ";"
abbrev pub counts_pool : ℕ → PoolTree → List Count
counts_pool depth (MakePool pool_place size object name semicolon_place) = counted depth 0 ∷ (counts_option (counts_size depth) size ++ (counts_type_name depth object ++ counted depth 0 ∷ counted depth 0 ∷ []))

-- target = NAME "." NAME { "." NAME }
abbrev pub counts_target : ℕ → TargetTree → List Count
counts_target depth (MakeTarget first second rest) = counted depth 0 ∷ (counts_dot_name depth second ++ flat_map (counts_dot_name depth) rest)

-- "," target
abbrev pub counts_next_target : ℕ → NextTargetTree → List Count
counts_next_target depth (MakeNextTarget comma_place target) = counted depth 0 ∷ counts_target depth target

-- "*" | target | "{" target {"," target} "}"
abbrev pub counts_targets : ℕ → TargetsTree → List Count
counts_targets depth (TargetsAll place) = counted depth 0 ∷ []
counts_targets depth (TargetsOne target) = counts_target depth target
counts_targets depth (TargetsSeveral left_brace_place first rest right_brace_place) = counted depth 0 ∷ (counts_target depth first ++ (flat_map (counts_next_target depth) rest ++ counted depth 0 ∷ []))

-- poolbind = "bind" NAME ( "*" | target | "{" target {"," target} "}" ) ";"
abbrev pub counts_pool_bind : ℕ → PoolBindTree → List Count
counts_pool_bind depth (MakePoolBind bind_place pool targets semicolon_place) = counted depth 0 ∷ counted depth 0 ∷ (counts_targets depth targets ++ counted depth 0 ∷ [])

-- One part of component between its braces.
abbrev pub counts_component_part : ℕ → ComponentPartTree → List Count
counts_component_part depth (ComponentPartAction action) = counts_action depth action
counts_component_part depth (ComponentPartObject object) = counts_object depth object
counts_component_part depth (ComponentPartEnum enum) = counts_enum depth enum
counts_component_part depth (ComponentPartFunction function) = counts_function depth function
counts_component_part depth (ComponentPartPool pool) = counts_pool depth pool
counts_component_part depth (ComponentPartPoolBind pool_bind) = counts_pool_bind depth pool_bind
counts_component_part depth (ComponentPartMembers members) = counts_members depth members
counts_component_part depth (ComponentPartEmpty place) = counted depth 0 ∷ []

-- component = "component" NAME "{" { action | object | enum | function | pool | poolbind | members | ";" } "}"
abbrev pub counts_component : ℕ → ComponentTree → List Count
counts_component depth (MakeComponent component_place name left_brace_place parts right_brace_place) = counted (suc depth) 0 ∷ counted (suc depth) 0 ∷ counted (suc depth) 0 ∷ (flat_map (counts_component_part (suc depth)) parts ++ counted (suc depth) 0 ∷ [])

-- One part of unit before its end.
abbrev pub counts_item : ℕ → ItemTree → List Count
counts_item depth (ItemComponent component) = counts_component depth component
counts_item depth (ItemObject object) = counts_object depth object
counts_item depth (ItemEnum enum) = counts_enum depth enum
counts_item depth (ItemFunction function) = counts_function depth function
counts_item depth (ItemEmpty place) = counted depth 0 ∷ []

-- unit = { component | object | enum | function | ";" } END
abbrev pub counts_unit : ℕ → UnitTree → List Count
counts_unit depth (MakeUnit items finish) = flat_map (counts_item depth) items ++ counted depth 0 ∷ []
