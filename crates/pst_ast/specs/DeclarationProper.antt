-- Trees that group as their tokens are read: declaration.
use Rattle.std.specs.Prelude.{◌≡◌}
use Rattle.std.specs.List.{AllByRecursion}
use Rattle.pst_ast.specs.Marks.{OptionIs, mark}
use Rattle.pst_token.specs.declared.kind.Kind.TheVariants as kind
use Rattle.pst_ast.specs.ActivityProper.{IsProperActivity}
use Rattle.pst_ast.specs.BodyProper.{IsProperBody}
use Rattle.pst_ast.specs.ConstraintProper.{IsProperConstraintDeclaration}
use Rattle.pst_ast.specs.ExpressionProper.{IsProperExpr, IsProperPart}
use Rattle.pst_ast.specs.SharedProper.{IsProperNames, IsProperPlain, IsProperType}
use Rattle.pst_ast.specs.DeclarationTree.{UnitTree, MakeUnit, ItemTree, ItemComponent, ItemObject, ItemEnum, ItemFunction, ItemEmpty, ComponentTree, MakeComponent, ComponentPartTree, ComponentPartAction, ComponentPartObject, ComponentPartEnum, ComponentPartFunction, ComponentPartPool, ComponentPartPoolBind, ComponentPartMembers, ComponentPartEmpty, ObjectTree, MakeObject, ObjectPartTree, ObjectPartField, ObjectPartConstraint, ObjectPartEmpty, EnumTree, MakeEnum, EnumItemTree, MakeEnumItem, EnumValueTree, MakeEnumValue, NextEnumItemTree, MakeNextEnumItem, FunctionTree, MakeFunction, AnswerTree, AnswerVoid, AnswerPlain, ParametersTree, MakeParameters, ParameterTree, MakeParameter, NextParameterTree, MakeNextParameter, PoolTree, MakePool, SizeTree, MakeSize, PoolBindTree, MakePoolBind, TargetsTree, TargetsAll, TargetsOne, TargetsSeveral, TargetTree, MakeTarget, NextTargetTree, MakeNextTarget, MembersTree, MakeMembers, ActionTree, MakeAction, ActionPartTree, ActionPartField, ActionPartReference, ActionPartClaim, ActionPartMembers, ActionPartConstraint, ActionPartActivity, ActionPartBody, ActionPartEmpty, FieldTree, MakeField, NextFieldTree, MakeNextField, ReferenceTree, MakeReference, ClaimTree, MakeClaim}

-- "," NAME [ index ]
abbrev pub IsProperNextField : NextFieldTree → Type 0
IsProperNextField (MakeNextField comma_place part) = IsProperPart part

-- field = "rand" type NAME [ index ] { "," NAME [ index ] } ";"
abbrev pub IsProperField : FieldTree → Type 0
IsProperField (MakeField rand_place field_type first rest semicolon_place) = IsProperType field_type × IsProperPart first × AllByRecursion IsProperNextField rest

-- ref = ("input"|"output") tname NAME { "," NAME } ";"
abbrev pub IsProperReference : ReferenceTree → Type 0
IsProperReference (MakeReference word place object names semicolon_place) = IsProperNames names

-- claim = ("lock"|"share") tname NAME { "," NAME } ";"
abbrev pub IsProperClaim : ClaimTree → Type 0
IsProperClaim (MakeClaim word place object names semicolon_place) = IsProperNames names

-- members = tname NAME { "," NAME } ";"
abbrev pub IsProperMembers : MembersTree → Type 0
IsProperMembers (MakeMembers member_type names semicolon_place) = IsProperNames names

-- One part of action between its braces.
abbrev pub IsProperActionPart : ActionPartTree → Type 0
IsProperActionPart (ActionPartField field) = IsProperField field
IsProperActionPart (ActionPartReference reference) = IsProperReference reference
IsProperActionPart (ActionPartClaim claim) = IsProperClaim claim
IsProperActionPart (ActionPartMembers members) = IsProperMembers members
IsProperActionPart (ActionPartConstraint constraint_declaration) = IsProperConstraintDeclaration constraint_declaration
IsProperActionPart (ActionPartActivity activity) = IsProperActivity activity
IsProperActionPart (ActionPartBody body) = IsProperBody body
IsProperActionPart (ActionPartEmpty place) = Unit {0}

-- action = ["abstract"] "action" NAME [ ":" tname ] "{" { field | ref | claim | members | constraint | activity | body | ";" } "}"
abbrev pub IsProperAction : ActionTree → Type 0
IsProperAction (MakeAction abstract_place action_place name base left_brace_place parts right_brace_place) = AllByRecursion IsProperActionPart parts

-- One part of object between its braces.
abbrev pub IsProperObjectPart : ObjectPartTree → Type 0
IsProperObjectPart (ObjectPartField field) = IsProperField field
IsProperObjectPart (ObjectPartConstraint constraint_declaration) = IsProperConstraintDeclaration constraint_declaration
IsProperObjectPart (ObjectPartEmpty place) = Unit {0}

-- object = ("buffer"|"stream"|"state"|"resource") NAME "{" { field | constraint | ";" } "}"
abbrev pub IsProperObject : ObjectTree → Type 0
IsProperObject (MakeObject word place name left_brace_place parts right_brace_place) = AllByRecursion IsProperObjectPart parts

-- "=" expr
abbrev pub IsProperEnumValue : EnumValueTree → Type 0
IsProperEnumValue (MakeEnumValue equal_place expr) = IsProperExpr expr

-- eitem = NAME [ "=" expr ]
abbrev pub IsProperEnumItem : EnumItemTree → Type 0
IsProperEnumItem (MakeEnumItem name value) = OptionIs IsProperEnumValue value

-- "," eitem
abbrev pub IsProperNextEnumItem : NextEnumItemTree → Type 0
IsProperNextEnumItem (MakeNextEnumItem comma_place item) = IsProperEnumItem item

-- enum = "enum" NAME "{" eitem { "," eitem } "}"
abbrev pub IsProperEnum : EnumTree → Type 0
IsProperEnum (MakeEnum enum_place name left_brace_place first rest right_brace_place) = IsProperEnumItem first × AllByRecursion IsProperNextEnumItem rest

-- "void" | plain
abbrev pub IsProperAnswer : AnswerTree → Type 0
IsProperAnswer (AnswerVoid place) = Unit {0}
IsProperAnswer (AnswerPlain plain) = IsProperPlain plain

-- param = ["input"] plain NAME
abbrev pub IsProperParameter : ParameterTree → Type 0
IsProperParameter (MakeParameter input_place plain name) = IsProperPlain plain

-- "," param
abbrev pub IsProperNextParameter : NextParameterTree → Type 0
IsProperNextParameter (MakeNextParameter comma_place parameter) = IsProperParameter parameter

-- param { "," param }
abbrev pub IsProperParameters : ParametersTree → Type 0
IsProperParameters (MakeParameters first rest) = IsProperParameter first × AllByRecursion IsProperNextParameter rest

-- function = "import" ["target"] "function" ("void" | plain) NAME "(" [ param { "," param } ] ")" ";"
abbrev pub IsProperFunction : FunctionTree → Type 0
IsProperFunction (MakeFunction import_place target_place function_place answer name left_parenthesis_place parameters right_parenthesis_place semicolon_place) = IsProperAnswer answer × OptionIs IsProperParameters parameters

-- "[" expr "]"
abbrev pub IsProperSize : SizeTree → Type 0
IsProperSize (MakeSize left_bracket_place expr right_bracket_place) = IsProperExpr expr

-- pool = "pool" [ "[" expr "]" ] tname NAME ";"
abbrev pub IsProperPool : PoolTree → Type 0
IsProperPool (MakePool pool_place size object name semicolon_place) = OptionIs IsProperSize size

-- target = NAME "." NAME { "." NAME }
abbrev pub IsProperTarget : TargetTree → Type 0
IsProperTarget (MakeTarget first second rest) = Unit {0}

-- "," target
abbrev pub IsProperNextTarget : NextTargetTree → Type 0
IsProperNextTarget (MakeNextTarget comma_place target) = IsProperTarget target

-- "*" | target | "{" target {"," target} "}"
abbrev pub IsProperTargets : TargetsTree → Type 0
IsProperTargets (TargetsAll place) = Unit {0}
IsProperTargets (TargetsOne target) = IsProperTarget target
IsProperTargets (TargetsSeveral left_brace_place first rest right_brace_place) = IsProperTarget first × AllByRecursion IsProperNextTarget rest

-- poolbind = "bind" NAME ( "*" | target | "{" target {"," target} "}" ) ";"
abbrev pub IsProperPoolBind : PoolBindTree → Type 0
IsProperPoolBind (MakePoolBind bind_place pool targets semicolon_place) = IsProperTargets targets

-- One part of component between its braces.
abbrev pub IsProperComponentPart : ComponentPartTree → Type 0
IsProperComponentPart (ComponentPartAction action) = IsProperAction action
IsProperComponentPart (ComponentPartObject object) = IsProperObject object
IsProperComponentPart (ComponentPartEnum enum) = IsProperEnum enum
IsProperComponentPart (ComponentPartFunction function) = IsProperFunction function
IsProperComponentPart (ComponentPartPool pool) = IsProperPool pool
IsProperComponentPart (ComponentPartPoolBind pool_bind) = IsProperPoolBind pool_bind
IsProperComponentPart (ComponentPartMembers members) = IsProperMembers members
IsProperComponentPart (ComponentPartEmpty place) = Unit {0}

-- component = "component" NAME "{" { action | object | enum | function | pool | poolbind | members | ";" } "}"
abbrev pub IsProperComponent : ComponentTree → Type 0
IsProperComponent (MakeComponent component_place name left_brace_place parts right_brace_place) = AllByRecursion IsProperComponentPart parts

-- One part of unit before its end.
abbrev pub IsProperItem : ItemTree → Type 0
IsProperItem (ItemComponent component) = IsProperComponent component
IsProperItem (ItemObject object) = IsProperObject object
IsProperItem (ItemEnum enum) = IsProperEnum enum
IsProperItem (ItemFunction function) = IsProperFunction function
IsProperItem (ItemEmpty place) = Unit {0}

-- unit = { component | object | enum | function | ";" } END
abbrev pub IsProperUnit : UnitTree → Type 0
IsProperUnit (MakeUnit items finish) = AllByRecursion IsProperItem items × (finish ≡ mark kind.End finish.place)
