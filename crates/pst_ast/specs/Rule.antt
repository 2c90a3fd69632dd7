-- The rules of the grammar, and what their alternatives are made of.
use Rattle.pst_token.specs.declared.kind.Kind.{Kind}
use Rattle.pst_ast.specs.declared.leaf.Operator.{Operator}

pub data Rule : Type 0 where
  -- a mark or a reserved word
  TheMark : (kind : Kind) → Rule
  TheName : Rule
  TheNumber : Rule
  -- what may stand on the left of an operator between parts: it binds at least as tightly
  TheLeft : (operator : Operator) → Rule
  -- what may stand on its right: it binds more tightly
  TheRight : (operator : Operator) → Rule
  -- what may stand on the left of `in`
  TheLeftOfIn : Rule
  -- expr: operators between parts, by level.
  TheExpr : Rule
  -- unary = ("-" | "!" | "~") unary | primary
  TheUnary : Rule
  -- primary = NUMBER | "true" | "false" | path | "(" expr ")"
  ThePrimary : Rule
  -- path = NAME [ index ] { "." NAME [ index ] } | NAME "::" NAME [ "::" NAME ]
  ThePath : Rule
  -- NAME [ index ]
  ThePart : Rule
  -- "." NAME [ index ]
  TheNextPart : Rule
  -- index = "[" expr "]"
  TheIndex : Rule
  -- ranges = range { "," range }
  TheRanges : Rule
  -- "," range
  TheNextRange : Rule
  -- range = expr [ ".." expr ]
  TheRange : Rule
  -- "," expr
  TheNextExpr : Rule
  -- "," NAME
  TheNextName : Rule
  -- "." NAME
  TheDotName : Rule
  -- NAME { "," NAME }
  TheNames : Rule
  -- NAME ":"
  TheLabel : Rule
  -- tname = NAME [ "::" NAME ]
  TheTypeName : Rule
  -- "::" NAME
  TheScopedName : Rule
  -- plain = ("int"|"bit") [width] | "bool"
  ThePlain : Rule
  -- width = "[" expr [ ":" expr ] "]"
  TheWidth : Rule
  -- ":" expr
  TheLow : Rule
  -- type = plain ["in" "[" ranges "]"] | tname ["in" "[" ranges "]"]
  TheType : Rule
  -- "in" "[" ranges "]"
  TheDomain : Rule
  -- set = citem | "{" { citem } "}"
  TheConstraint : Rule
  -- a set that does not end with an `if` without `else`
  TheClosedConstraint : Rule
  -- citem: one constraint.
  TheConstraintItem : Rule
  -- constraint = "constraint" ( NAME "{" { citem } "}" | set )
  TheConstraintDeclaration : Rule
  -- What stands behind the word constraint.
  TheConstraintContent : Rule
  -- activity = "activity" "{" { stmt } "}"
  TheActivity : Rule
  -- stmt = ";" | [ NAME ":" ] core
  TheStatement : Rule
  -- a statement that does not end with an `if` without `else`
  TheClosedStatement : Rule
  -- core: a statement without its label.
  TheCore : Rule
  -- branch = [ ( "(" expr ")" [ "[" expr "]" ] | "[" expr "]" ) ":" ] stmt
  TheBranch : Rule
  -- arm = ( "[" ranges "]" | "default" ) ":" stmt
  TheArm : Rule
  -- What stands before the statement of a branch.
  TheGuard : Rule
  -- "[" expr "]"
  TheWeight : Rule
  -- What stands before the colon of an arm.
  TheArmLabel : Rule
  -- join = "join_branch" "(" NAME { "," NAME } ")" | "join_none" | "join_select" "(" expr ")"
  TheJoin : Rule
  -- with = ";" | "with" set
  TheWith : Rule
  -- "bind" end ( end | "{" end { "," end } "}" ) ";"
  TheBind : Rule
  -- end | "{" end { "," end } "}"
  TheOtherEnds : Rule
  -- end = NAME "." NAME
  TheEnd : Rule
  -- "," end
  TheNextEnd : Rule
  -- body = "exec" "body" "{" { bstmt } "}"
  TheBody : Rule
  -- bstmt: a statement of a body.
  TheBodyStatement : Rule
  -- a statement of a body that does not end with an `if` without `else`
  TheClosedBodyStatement : Rule
  -- "=" source
  TheValue : Rule
  -- source = call | expr
  TheSource : Rule
  -- call = NAME "(" [ expr { "," expr } ] ")"
  TheCall : Rule
  -- expr { "," expr }
  TheArguments : Rule
  -- unit = { component | object | enum | function | ";" } END
  TheUnit : Rule
  -- One part of unit before its end.
  TheItem : Rule
  -- component = "component" NAME "{" { action | object | enum | function | pool | poolbind | members | ";" } "}"
  TheComponent : Rule
  -- One part of component between its braces.
  TheComponentPart : Rule
  -- object = ("buffer"|"stream"|"state"|"resource") NAME "{" { field | constraint | ";" } "}"
  TheObject : Rule
  -- One part of object between its braces.
  TheObjectPart : Rule
  -- enum = "enum" NAME "{" eitem { "," eitem } "}"
  TheEnum : Rule
  -- eitem = NAME [ "=" expr ]
  TheEnumItem : Rule
  -- "=" expr
  TheEnumValue : Rule
  -- "," eitem
  TheNextEnumItem : Rule
  -- function = "import" ["target"] "function" ("void" | plain) NAME "(" [ param { "," param } ] ")" ";"
  TheFunction : Rule
  -- "void" | plain
  TheAnswer : Rule
  -- param { "," param }
  TheParameters : Rule
  -- param = ["input"] plain NAME
  TheParameter : Rule
  -- "," param
  TheNextParameter : Rule
  -- pool = "pool" [ "[" expr "]" ] tname NAME ";"
  ThePool : Rule
  -- "[" expr "]"
  TheSize : Rule
  -- poolbind = "bind" NAME ( "*" | target | "{" target {"," target} "}" ) ";"
  ThePoolBind : Rule
  -- "*" | target | "{" target {"," target} "}"
  TheTargets : Rule
  -- target = NAME "." NAME { "." NAME }
  TheTarget : Rule
  -- "," target
  TheNextTarget : Rule
  -- members = tname NAME { "," NAME } ";"
  TheMembers : Rule
  -- action = ["abstract"] "action" NAME [ ":" tname ] "{" { field | ref | claim | members | constraint | activity | body | ";" } "}"
  TheAction : Rule
  -- ":" tname
  TheBase : Rule
  -- One part of action between its braces.
  TheActionPart : Rule
  -- field = "rand" type NAME [ index ] { "," NAME [ index ] } ";"
  TheField : Rule
  -- "," NAME [ index ]
  TheNextField : Rule
  -- ref = ("input"|"output") tname NAME { "," NAME } ";"
  TheReference : Rule
  -- claim = ("lock"|"share") tname NAME { "," NAME } ";"
  TheClaim : Rule
  -- a part that may be left out
  TheOption : (part : Rule) → Rule
  -- any number of parts
  TheList : (part : Rule) → Rule
