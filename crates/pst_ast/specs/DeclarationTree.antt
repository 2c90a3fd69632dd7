-- The trees of the rules of declarations, without where they lie in memory.
use Rattle.std.specs.Prelude.{List, Option}
use Rattle.pst_ast.specs.declared.declaration.BaseNode.{BaseNode}
use Rattle.pst_ast.specs.declared.declaration.ClaimWord.{ClaimWord}
use Rattle.pst_ast.specs.declared.shared.DotName.{DotName}
use Rattle.pst_ast.specs.declared.leaf.Name.{Name}
use Rattle.pst_ast.specs.declared.declaration.ObjectWord.{ObjectWord}
use Rattle.pst_base.specs.declared.position.Place.{Place}
use Rattle.pst_ast.specs.declared.declaration.ReferenceWord.{ReferenceWord}
use Rattle.pst_token.specs.declared.token.Token.{Token}
use Rattle.pst_ast.specs.declared.shared.TypeName.{TypeName}
use Rattle.pst_ast.specs.ActivityTree.{ActivityTree}
use Rattle.pst_ast.specs.BodyTree.{BodyTree}
use Rattle.pst_ast.specs.ConstraintTree.{ConstraintDeclarationTree}
use Rattle.pst_ast.specs.ExpressionTree.{ExprTree, PartTree}
use Rattle.pst_ast.specs.SharedTree.{NamesTree, PlainTree, TypeTree}

-- "," NAME [ index ]
pub data NextFieldTree : Type 0 where
  MakeNextField : (comma_place : Place) → (part : PartTree) → NextFieldTree

-- field = "rand" type NAME [ index ] { "," NAME [ index ] } ";"
pub data FieldTree : Type 0 where
  MakeField : (rand_place : Place) → (field_type : TypeTree) → (first : PartTree) → (rest : List NextFieldTree) → (semicolon_place : Place) → FieldTree

-- ref = ("input"|"output") tname NAME { "," NAME } ";"
pub data ReferenceTree : Type 0 where
  MakeReference : (word : ReferenceWord) → (place : Place) → (object : TypeName) → (names : NamesTree) → (semicolon_place : Place) → ReferenceTree

-- claim = ("lock"|"share") tname NAME { "," NAME } ";"
pub data ClaimTree : Type 0 where
  MakeClaim : (word : ClaimWord) → (place : Place) → (object : TypeName) → (names : NamesTree) → (semicolon_place : Place) → ClaimTree

-- members = tname NAME { "," NAME } ";"
pub data MembersTree : Type 0 where
  MakeMembers : (member_type : TypeName) → (names : NamesTree) → (semicolon_place : Place) → MembersTree

-- One part of action between its braces.
pub data ActionPartTree : Type 0 where
  -- field
  ActionPartField : (field : FieldTree) → ActionPartTree
  -- ref
  ActionPartReference : (reference : ReferenceTree) → ActionPartTree
  -- claim
  ActionPartClaim : (claim : ClaimTree) → ActionPartTree
  -- members
  ActionPartMembers : (members : MembersTree) → ActionPartTree
  -- constraint
  ActionPartConstraint : (constraint_declaration : ConstraintDeclarationTree) → ActionPartTree
  -- activity
  ActionPartActivity : (activity : ActivityTree) → ActionPartTree
  -- body
  ActionPartBody : (body : BodyTree) → ActionPartTree
  -- ";"
  ActionPartEmpty : (place : Place) → ActionPartTree

-- action = ["abstract"] "action" NAME [ ":" tname ] "{" { field | ref | claim | members | constraint | activity | body | ";" } "}"
pub data ActionTree : Type 0 where
  MakeAction : (abstract_place : Option Place) → (action_place : Place) → (name : Name) → (base : Option BaseNode) → (left_brace_place : Place) → (parts : List ActionPartTree) → (right_brace_place : Place) → ActionTree

-- One part of object between its braces.
pub data ObjectPartTree : Type 0 where
  -- field
  ObjectPartField : (field : FieldTree) → ObjectPartTree
  -- constraint
  ObjectPartConstraint : (constraint_declaration : ConstraintDeclarationTree) → ObjectPartTree
  -- ";"
  ObjectPartEmpty : (place : Place) → ObjectPartTree

-- object = ("buffer"|"stream"|"state"|"resource") NAME "{" { field | constraint | ";" } "}"
pub data ObjectTree : Type 0 where
  MakeObject : (word : ObjectWord) → (place : Place) → (name : Name) → (left_brace_place : Place) → (parts : List ObjectPartTree) → (right_brace_place : Place) → ObjectTree

-- "=" expr
pub data EnumValueTree : Type 0 where
  MakeEnumValue : (equal_place : Place) → (expr : ExprTree) → EnumValueTree

-- eitem = NAME [ "=" expr ]
pub data EnumItemTree : Type 0 where
  MakeEnumItem : (name : Name) → (value : Option EnumValueTree) → EnumItemTree

-- "," eitem
pub data NextEnumItemTree : Type 0 where
  MakeNextEnumItem : (comma_place : Place) → (item : EnumItemTree) → NextEnumItemTree

-- enum = "enum" NAME "{" eitem { "," eitem } "}"
pub data EnumTree : Type 0 where
  MakeEnum : (enum_place : Place) → (name : Name) → (left_brace_place : Place) → (first : EnumItemTree) → (rest : List NextEnumItemTree) → (right_brace_place : Place) → EnumTree

-- "void" | plain
pub data AnswerTree : Type 0 where
  -- void
  AnswerVoid : (place : Place) → AnswerTree
  -- A plain type.
  AnswerPlain : (plain : PlainTree) → AnswerTree

-- param = ["input"] plain NAME
pub data ParameterTree : Type 0 where
  MakeParameter : (input_place : Option Place) → (plain : PlainTree) → (name : Name) → ParameterTree

-- "," param
pub data NextParameterTree : Type 0 where
  MakeNextParameter : (comma_place : Place) → (parameter : ParameterTree) → NextParameterTree

-- param { "," param }
pub data ParametersTree : Type 0 where
  MakeParameters : (first : ParameterTree) → (rest : List NextParameterTree) → ParametersTree

-- function = "import" ["target"] "function" ("void" | plain) NAME "(" [ param { "," param } ] ")" ";"
pub data FunctionTree : Type 0 where
  MakeFunction : (import_place : Place) → (target_place : Option Place) → (function_place : Place) → (answer : AnswerTree) → (name : Name) → (left_parenthesis_place : Place) → (parameters : Option ParametersTree) → (right_parenthesis_place : Place) → (semicolon_place : Place) → FunctionTree

-- "[" expr "]"
pub data SizeTree : Type 0 where
  MakeSize : (left_bracket_place : Place) → (expr : ExprTree) → (right_bracket_place : Place) → SizeTree

-- pool = "pool" [ "[" expr "]" ] tname NAME ";"
pub data PoolTree : Type 0 where
  MakePool : (pool_place : Place) → (size : Option SizeTree) → (object : TypeName) → (name : Name) → (semicolon_place : Place) → PoolTree

-- target = NAME "." NAME { "." NAME }
pub data TargetTree : Type 0 where
  MakeTarget : (first : Name) → (second : DotName) → (rest : List DotName) → TargetTree

-- "," target
pub data NextTargetTree : Type 0 where
  MakeNextTarget : (comma_place : Place) → (target : TargetTree) → NextTargetTree

-- "*" | target | "{" target {"," target} "}"
pub data TargetsTree : Type 0 where
  -- *
  TargetsAll : (place : Place) → TargetsTree
  -- One target.
  TargetsOne : (target : TargetTree) → TargetsTree
  -- Targets in braces.
  TargetsSeveral : (left_brace_place : Place) → (first : TargetTree) → (rest : List NextTargetTree) → (right_brace_place : Place) → TargetsTree

-- poolbind = "bind" NAME ( "*" | target | "{" target {"," target} "}" ) ";"
pub data PoolBindTree : Type 0 where
  MakePoolBind : (bind_place : Place) → (pool : Name) → (targets : TargetsTree) → (semicolon_place : Place) → PoolBindTree

-- One part of component between its braces.
pub data ComponentPartTree : Type 0 where
  -- action
  ComponentPartAction : (action : ActionTree) → ComponentPartTree
  -- object
  ComponentPartObject : (object : ObjectTree) → ComponentPartTree
  -- enum
  ComponentPartEnum : (enum : EnumTree) → ComponentPartTree
  -- function
  ComponentPartFunction : (function : FunctionTree) → ComponentPartTree
  -- pool
  ComponentPartPool : (pool : PoolTree) → ComponentPartTree
  -- poolbind
  ComponentPartPoolBind : (pool_bind : PoolBindTree) → ComponentPartTree
  -- members
  ComponentPartMembers : (members : MembersTree) → ComponentPartTree
  -- ";"
  ComponentPartEmpty : (place : Place) → ComponentPartTree

-- component = "component" NAME "{" { action | object | enum | function | pool | poolbind | members | ";" } "}"
pub data ComponentTree : Type 0 where
  MakeComponent : (component_place : Place) → (name : Name) → (left_brace_place : Place) → (parts : List ComponentPartTree) → (right_brace_place : Place) → ComponentTree

-- One part of unit before its end.
pub data ItemTree : Type 0 where
  -- component
  ItemComponent : (component : ComponentTree) → ItemTree
  -- object
  ItemObject : (object : ObjectTree) → ItemTree
  -- enum
  ItemEnum : (enum : EnumTree) → ItemTree
  -- function
  ItemFunction : (function : FunctionTree) → ItemTree
  -- ";"
  ItemEmpty : (place : Place) → ItemTree

-- unit = { component | object | enum | function | ";" } END
pub data UnitTree : Type 0 where
  MakeUnit : (items : List ItemTree) → (finish : Token) → UnitTree
