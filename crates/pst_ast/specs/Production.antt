-- The alternatives of each rule: the grammar without its ambiguities. The parts of an `if` before its `else` have none of their own: they are read as other parts are, and may be such parts then.
use Rattle.std.specs.Prelude.{List, [], ◌∷◌, ◌≤◌, ◌<◌}
use Rattle.pst_token.specs.declared.kind.Kind.TheVariants as kind
use Rattle.pst_ast.specs.declared.leaf.Operator.{Operator}
use Rattle.pst_ast.specs.declared.leaf.PrefixOperator.{PrefixOperator}
use Rattle.pst_ast.specs.declared.declaration.ClaimWord.{ClaimWord}
use Rattle.pst_ast.specs.declared.declaration.ObjectWord.{ObjectWord}
use Rattle.pst_ast.specs.declared.declaration.ReferenceWord.{ReferenceWord}
use Rattle.pst_ast.specs.declared.activity.TogetherWord.{TogetherWord}
use Rattle.pst_ast.specs.Marks.{operator_kind, prefix_operator_kind, claim_word_kind, object_word_kind, reference_word_kind, together_word_kind}
use Rattle.pst_ast.specs.ExpressionProper.{level_of}
use Rattle.pst_ast.specs.Rule.{Rule, TheMark, TheName, TheNumber, TheLeft, TheRight, TheLeftOfIn, TheExpr, TheUnary, ThePrimary, ThePath, ThePart, TheNextPart, TheIndex, TheRanges, TheNextRange, TheRange, TheNextExpr, TheNextName, TheDotName, TheNames, TheLabel, TheTypeName, TheScopedName, ThePlain, TheWidth, TheLow, TheType, TheDomain, TheConstraint, TheClosedConstraint, TheConstraintItem, TheConstraintDeclaration, TheConstraintContent, TheActivity, TheStatement, TheClosedStatement, TheCore, TheBranch, TheArm, TheGuard, TheWeight, TheArmLabel, TheJoin, TheWith, TheBind, TheOtherEnds, TheEnd, TheNextEnd, TheBody, TheBodyStatement, TheClosedBodyStatement, TheValue, TheSource, TheCall, TheArguments, TheUnit, TheItem, TheComponent, TheComponentPart, TheObject, TheObjectPart, TheEnum, TheEnumItem, TheEnumValue, TheNextEnumItem, TheFunction, TheAnswer, TheParameters, TheParameter, TheNextParameter, ThePool, TheSize, ThePoolBind, TheTargets, TheTarget, TheNextTarget, TheMembers, TheAction, TheBase, TheActionPart, TheField, TheNextField, TheReference, TheClaim, TheOption, TheList}

-- what a tree of a rule may be made of, part by part
pub data Production : Rule → List Rule → Type 0 where
  -- expr: operators between parts, by level.
  expr_unary : Production TheExpr (TheUnary ∷ [])
  expr_operator : (operator : Operator) → Production TheExpr (TheLeft operator ∷ TheMark (operator_kind operator) ∷ TheRight operator ∷ [])
  expr_in : Production TheExpr (TheLeftOfIn ∷ TheMark kind.In ∷ TheMark kind.LeftBracket ∷ TheRanges ∷ TheMark kind.RightBracket ∷ [])
  -- on the left of an operator
  left_unary : (outer : Operator) → Production (TheLeft outer) (TheUnary ∷ [])
  left_operator : (outer : Operator) → (operator : Operator) → level_of outer ≤ level_of operator → Production (TheLeft outer) (TheLeft operator ∷ TheMark (operator_kind operator) ∷ TheRight operator ∷ [])
  left_in : (outer : Operator) → level_of outer ≤ 6 → Production (TheLeft outer) (TheLeftOfIn ∷ TheMark kind.In ∷ TheMark kind.LeftBracket ∷ TheRanges ∷ TheMark kind.RightBracket ∷ [])
  -- on the right of an operator
  right_unary : (outer : Operator) → Production (TheRight outer) (TheUnary ∷ [])
  right_operator : (outer : Operator) → (operator : Operator) → level_of outer < level_of operator → Production (TheRight outer) (TheLeft operator ∷ TheMark (operator_kind operator) ∷ TheRight operator ∷ [])
  right_in : (outer : Operator) → level_of outer < 6 → Production (TheRight outer) (TheLeftOfIn ∷ TheMark kind.In ∷ TheMark kind.LeftBracket ∷ TheRanges ∷ TheMark kind.RightBracket ∷ [])
  -- on the left of `in`
  left_of_in_unary : Production TheLeftOfIn (TheUnary ∷ [])
  left_of_in_operator : (operator : Operator) → 6 ≤ level_of operator → Production TheLeftOfIn (TheLeft operator ∷ TheMark (operator_kind operator) ∷ TheRight operator ∷ [])
  left_of_in_in : Production TheLeftOfIn (TheLeftOfIn ∷ TheMark kind.In ∷ TheMark kind.LeftBracket ∷ TheRanges ∷ TheMark kind.RightBracket ∷ [])
  -- unary = ("-" | "!" | "~") unary | primary
  unary_prefix : (operator : PrefixOperator) → Production TheUnary (TheMark (prefix_operator_kind operator) ∷ TheUnary ∷ [])
  unary_primary : Production TheUnary (ThePrimary ∷ [])
  -- primary = NUMBER | "true" | "false" | path | "(" expr ")"
  primary_number : Production ThePrimary (TheNumber ∷ [])
  primary_true : Production ThePrimary (TheMark kind.True ∷ [])
  primary_false : Production ThePrimary (TheMark kind.False ∷ [])
  primary_path : Production ThePrimary (ThePath ∷ [])
  primary_group : Production ThePrimary (TheMark kind.LeftParenthesis ∷ TheExpr ∷ TheMark kind.RightParenthesis ∷ [])
  -- path = NAME [ index ] { "." NAME [ index ] } | NAME "::" NAME [ "::" NAME ]
  path_dotted : Production ThePath (ThePart ∷ TheList TheNextPart ∷ [])
  path_item : Production ThePath (TheName ∷ TheMark kind.ColonColon ∷ TheName ∷ [])
  path_long_item : Production ThePath (TheName ∷ TheMark kind.ColonColon ∷ TheName ∷ TheMark kind.ColonColon ∷ TheName ∷ [])
  -- NAME [ index ]
  part : Production ThePart (TheName ∷ TheOption TheIndex ∷ [])
  -- "." NAME [ index ]
  next_part : Production TheNextPart (TheMark kind.Dot ∷ ThePart ∷ [])
  -- index = "[" expr "]"
  index : Production TheIndex (TheMark kind.LeftBracket ∷ TheExpr ∷ TheMark kind.RightBracket ∷ [])
  -- ranges = range { "," range }
  ranges : Production TheRanges (TheRange ∷ TheList TheNextRange ∷ [])
  -- "," range
  next_range : Production TheNextRange (TheMark kind.Comma ∷ TheRange ∷ [])
  -- range = expr [ ".." expr ]
  range_single : Production TheRange (TheExpr ∷ [])
  range_between : Production TheRange (TheExpr ∷ TheMark kind.DotDot ∷ TheExpr ∷ [])
  -- "," expr
  next_expr : Production TheNextExpr (TheMark kind.Comma ∷ TheExpr ∷ [])
  -- "," NAME
  next_name : Production TheNextName (TheMark kind.Comma ∷ TheName ∷ [])
  -- "." NAME
  dot_name : Production TheDotName (TheMark kind.Dot ∷ TheName ∷ [])
  -- NAME { "," NAME }
  names : Production TheNames (TheName ∷ TheList TheNextName ∷ [])
  -- NAME ":"
  label : Production TheLabel (TheName ∷ TheMark kind.Colon ∷ [])
  -- tname = NAME [ "::" NAME ]
  type_name : Production TheTypeName (TheName ∷ TheOption TheScopedName ∷ [])
  -- "::" NAME
  scoped_name : Production TheScopedName (TheMark kind.ColonColon ∷ TheName ∷ [])
  -- plain = ("int"|"bit") [width] | "bool"
  plain_int : Production ThePlain (TheMark kind.Int ∷ TheOption TheWidth ∷ [])
  plain_bit : Production ThePlain (TheMark kind.Bit ∷ TheOption TheWidth ∷ [])
  plain_bool : Production ThePlain (TheMark kind.Bool ∷ [])
  -- width = "[" expr [ ":" expr ] "]"
  width : Production TheWidth (TheMark kind.LeftBracket ∷ TheExpr ∷ TheOption TheLow ∷ TheMark kind.RightBracket ∷ [])
  -- ":" expr
  low : Production TheLow (TheMark kind.Colon ∷ TheExpr ∷ [])
  -- type = plain ["in" "[" ranges "]"] | tname ["in" "[" ranges "]"]
  type_plain : Production TheType (ThePlain ∷ TheOption TheDomain ∷ [])
  type_named : Production TheType (TheTypeName ∷ TheOption TheDomain ∷ [])
  -- "in" "[" ranges "]"
  domain : Production TheDomain (TheMark kind.In ∷ TheMark kind.LeftBracket ∷ TheRanges ∷ TheMark kind.RightBracket ∷ [])
  -- set = citem | "{" { citem } "}"
  constraint_one : Production TheConstraint (TheConstraintItem ∷ [])
  constraint_block : Production TheConstraint (TheMark kind.LeftBrace ∷ TheList TheConstraintItem ∷ TheMark kind.RightBrace ∷ [])
  -- citem: one constraint.
  constraint_item_empty : Production TheConstraintItem (TheMark kind.Semicolon ∷ [])
  constraint_item_expr : Production TheConstraintItem (TheExpr ∷ TheMark kind.Semicolon ∷ [])
  constraint_item_implies : Production TheConstraintItem (TheExpr ∷ TheMark kind.Arrow ∷ TheConstraint ∷ [])
  constraint_item_if : Production TheConstraintItem (TheMark kind.If ∷ TheMark kind.LeftParenthesis ∷ TheExpr ∷ TheMark kind.RightParenthesis ∷ TheConstraint ∷ [])
  constraint_item_if_else : Production TheConstraintItem (TheMark kind.If ∷ TheMark kind.LeftParenthesis ∷ TheExpr ∷ TheMark kind.RightParenthesis ∷ TheClosedConstraint ∷ TheMark kind.Else ∷ TheConstraint ∷ [])
  constraint_item_unique : Production TheConstraintItem (TheMark kind.Unique ∷ TheMark kind.LeftBrace ∷ TheExpr ∷ TheList TheNextExpr ∷ TheMark kind.RightBrace ∷ TheMark kind.Semicolon ∷ [])
  constraint_item_foreach : Production TheConstraintItem (TheMark kind.Foreach ∷ TheMark kind.LeftParenthesis ∷ TheName ∷ TheList TheDotName ∷ TheMark kind.LeftBracket ∷ TheName ∷ TheMark kind.RightBracket ∷ TheMark kind.RightParenthesis ∷ TheConstraint ∷ [])
  -- constraint = "constraint" ( NAME "{" { citem } "}" | set )
  constraint_declaration : Production TheConstraintDeclaration (TheMark kind.Constraint ∷ TheConstraintContent ∷ [])
  -- What stands behind the word constraint.
  constraint_content_named : Production TheConstraintContent (TheName ∷ TheMark kind.LeftBrace ∷ TheList TheConstraintItem ∷ TheMark kind.RightBrace ∷ [])
  constraint_content_set : Production TheConstraintContent (TheConstraint ∷ [])
  -- activity = "activity" "{" { stmt } "}"
  activity : Production TheActivity (TheMark kind.Activity ∷ TheMark kind.LeftBrace ∷ TheList TheStatement ∷ TheMark kind.RightBrace ∷ [])
  -- stmt = ";" | [ NAME ":" ] core
  statement_empty : Production TheStatement (TheMark kind.Semicolon ∷ [])
  statement_labeled : Production TheStatement (TheLabel ∷ TheCore ∷ [])
  statement_plain : Production TheStatement (TheCore ∷ [])
  -- core: a statement without its label.
  core_do : Production TheCore (TheMark kind.Do ∷ TheTypeName ∷ TheWith ∷ [])
  core_handle : Production TheCore (TheName ∷ TheWith ∷ [])
  core_sequence : Production TheCore (TheOption (TheMark kind.Sequence) ∷ TheMark kind.LeftBrace ∷ TheList TheStatement ∷ TheMark kind.RightBrace ∷ [])
  core_together : (word : TogetherWord) → Production TheCore (TheMark (together_word_kind word) ∷ TheOption TheJoin ∷ TheMark kind.LeftBrace ∷ TheList TheStatement ∷ TheMark kind.RightBrace ∷ [])
  core_select : Production TheCore (TheMark kind.Select ∷ TheMark kind.LeftBrace ∷ TheBranch ∷ TheList TheBranch ∷ TheMark kind.RightBrace ∷ [])
  core_repeat : Production TheCore (TheMark kind.Repeat ∷ TheMark kind.LeftParenthesis ∷ TheOption TheLabel ∷ TheExpr ∷ TheMark kind.RightParenthesis ∷ TheStatement ∷ [])
  core_if : Production TheCore (TheMark kind.If ∷ TheMark kind.LeftParenthesis ∷ TheExpr ∷ TheMark kind.RightParenthesis ∷ TheStatement ∷ [])
  core_if_else : Production TheCore (TheMark kind.If ∷ TheMark kind.LeftParenthesis ∷ TheExpr ∷ TheMark kind.RightParenthesis ∷ TheClosedStatement ∷ TheMark kind.Else ∷ TheStatement ∷ [])
  core_match : Production TheCore (TheMark kind.Match ∷ TheMark kind.LeftParenthesis ∷ TheExpr ∷ TheMark kind.RightParenthesis ∷ TheMark kind.LeftBrace ∷ TheArm ∷ TheList TheArm ∷ TheMark kind.RightBrace ∷ [])
  core_bind : Production TheCore (TheBind ∷ [])
  -- branch = [ ( "(" expr ")" [ "[" expr "]" ] | "[" expr "]" ) ":" ] stmt
  branch : Production TheBranch (TheOption TheGuard ∷ TheStatement ∷ [])
  -- arm = ( "[" ranges "]" | "default" ) ":" stmt
  arm : Production TheArm (TheArmLabel ∷ TheMark kind.Colon ∷ TheStatement ∷ [])
  -- What stands before the statement of a branch.
  guard_condition : Production TheGuard (TheMark kind.LeftParenthesis ∷ TheExpr ∷ TheMark kind.RightParenthesis ∷ TheOption TheWeight ∷ TheMark kind.Colon ∷ [])
  guard_weight : Production TheGuard (TheWeight ∷ TheMark kind.Colon ∷ [])
  -- "[" expr "]"
  weight : Production TheWeight (TheMark kind.LeftBracket ∷ TheExpr ∷ TheMark kind.RightBracket ∷ [])
  -- What stands before the colon of an arm.
  arm_label_ranges : Production TheArmLabel (TheMark kind.LeftBracket ∷ TheRanges ∷ TheMark kind.RightBracket ∷ [])
  arm_label_default : Production TheArmLabel (TheMark kind.Default ∷ [])
  -- join = "join_branch" "(" NAME { "," NAME } ")" | "join_none" | "join_select" "(" expr ")"
  join_branch : Production TheJoin (TheMark kind.JoinBranch ∷ TheMark kind.LeftParenthesis ∷ TheNames ∷ TheMark kind.RightParenthesis ∷ [])
  join_nothing : Production TheJoin (TheMark kind.JoinNone ∷ [])
  join_select : Production TheJoin (TheMark kind.JoinSelect ∷ TheMark kind.LeftParenthesis ∷ TheExpr ∷ TheMark kind.RightParenthesis ∷ [])
  -- with = ";" | "with" set
  with_nothing : Production TheWith (TheMark kind.Semicolon ∷ [])
  with_set : Production TheWith (TheMark kind.With ∷ TheConstraint ∷ [])
  -- "bind" end ( end | "{" end { "," end } "}" ) ";"
  bind : Production TheBind (TheMark kind.Bind ∷ TheEnd ∷ TheOtherEnds ∷ TheMark kind.Semicolon ∷ [])
  -- end | "{" end { "," end } "}"
  other_ends_one : Production TheOtherEnds (TheEnd ∷ [])
  other_ends_several : Production TheOtherEnds (TheMark kind.LeftBrace ∷ TheEnd ∷ TheList TheNextEnd ∷ TheMark kind.RightBrace ∷ [])
  -- end = NAME "." NAME
  end : Production TheEnd (TheName ∷ TheMark kind.Dot ∷ TheName ∷ [])
  -- "," end
  next_end : Production TheNextEnd (TheMark kind.Comma ∷ TheEnd ∷ [])
  -- body = "exec" "body" "{" { bstmt } "}"
  body : Production TheBody (TheMark kind.Exec ∷ TheMark kind.Body ∷ TheMark kind.LeftBrace ∷ TheList TheBodyStatement ∷ TheMark kind.RightBrace ∷ [])
  -- bstmt: a statement of a body.
  body_statement_empty : Production TheBodyStatement (TheMark kind.Semicolon ∷ [])
  body_statement_local : Production TheBodyStatement (ThePlain ∷ TheName ∷ TheOption TheValue ∷ TheMark kind.Semicolon ∷ [])
  body_statement_assign : Production TheBodyStatement (TheName ∷ TheMark kind.Equal ∷ TheSource ∷ TheMark kind.Semicolon ∷ [])
  body_statement_call : Production TheBodyStatement (TheCall ∷ TheMark kind.Semicolon ∷ [])
  body_statement_block : Production TheBodyStatement (TheMark kind.LeftBrace ∷ TheList TheBodyStatement ∷ TheMark kind.RightBrace ∷ [])
  body_statement_if : Production TheBodyStatement (TheMark kind.If ∷ TheMark kind.LeftParenthesis ∷ TheExpr ∷ TheMark kind.RightParenthesis ∷ TheBodyStatement ∷ [])
  body_statement_if_else : Production TheBodyStatement (TheMark kind.If ∷ TheMark kind.LeftParenthesis ∷ TheExpr ∷ TheMark kind.RightParenthesis ∷ TheClosedBodyStatement ∷ TheMark kind.Else ∷ TheBodyStatement ∷ [])
  body_statement_repeat : Production TheBodyStatement (TheMark kind.Repeat ∷ TheMark kind.LeftParenthesis ∷ TheOption TheLabel ∷ TheExpr ∷ TheMark kind.RightParenthesis ∷ TheBodyStatement ∷ [])
  -- "=" source
  value : Production TheValue (TheMark kind.Equal ∷ TheSource ∷ [])
  -- source = call | expr
  source_call : Production TheSource (TheCall ∷ [])
  source_expr : Production TheSource (TheExpr ∷ [])
  -- call = NAME "(" [ expr { "," expr } ] ")"
  call : Production TheCall (TheName ∷ TheMark kind.LeftParenthesis ∷ TheOption TheArguments ∷ TheMark kind.RightParenthesis ∷ [])
  -- expr { "," expr }
  arguments : Production TheArguments (TheExpr ∷ TheList TheNextExpr ∷ [])
  -- unit = { component | object | enum | function | ";" } END
  unit : Production TheUnit (TheList TheItem ∷ TheMark kind.End ∷ [])
  -- One part of unit before its end.
  item_component : Production TheItem (TheComponent ∷ [])
  item_object : Production TheItem (TheObject ∷ [])
  item_enum : Production TheItem (TheEnum ∷ [])
  item_function : Production TheItem (TheFunction ∷ [])
  item_empty : Production TheItem (TheMark kind.Semicolon ∷ [])
  -- component = "component" NAME "{" { action | object | enum | function | pool | poolbind | members | ";" } "}"
  component : Production TheComponent (TheMark kind.Component ∷ TheName ∷ TheMark kind.LeftBrace ∷ TheList TheComponentPart ∷ TheMark kind.RightBrace ∷ [])
  -- One part of component between its braces.
  component_part_action : Production TheComponentPart (TheAction ∷ [])
  component_part_object : Production TheComponentPart (TheObject ∷ [])
  component_part_enum : Production TheComponentPart (TheEnum ∷ [])
  component_part_function : Production TheComponentPart (TheFunction ∷ [])
  component_part_pool : Production TheComponentPart (ThePool ∷ [])
  component_part_pool_bind : Production TheComponentPart (ThePoolBind ∷ [])
  component_part_members : Production TheComponentPart (TheMembers ∷ [])
  component_part_empty : Production TheComponentPart (TheMark kind.Semicolon ∷ [])
  -- object = ("buffer"|"stream"|"state"|"resource") NAME "{" { field | constraint | ";" } "}"
  object : (word : ObjectWord) → Production TheObject (TheMark (object_word_kind word) ∷ TheName ∷ TheMark kind.LeftBrace ∷ TheList TheObjectPart ∷ TheMark kind.RightBrace ∷ [])
  -- One part of object between its braces.
  object_part_field : Production TheObjectPart (TheField ∷ [])
  object_part_constraint : Production TheObjectPart (TheConstraintDeclaration ∷ [])
  object_part_empty : Production TheObjectPart (TheMark kind.Semicolon ∷ [])
  -- enum = "enum" NAME "{" eitem { "," eitem } "}"
  enum : Production TheEnum (TheMark kind.Enum ∷ TheName ∷ TheMark kind.LeftBrace ∷ TheEnumItem ∷ TheList TheNextEnumItem ∷ TheMark kind.RightBrace ∷ [])
  -- eitem = NAME [ "=" expr ]
  enum_item : Production TheEnumItem (TheName ∷ TheOption TheEnumValue ∷ [])
  -- "=" expr
  enum_value : Production TheEnumValue (TheMark kind.Equal ∷ TheExpr ∷ [])
  -- "," eitem
  next_enum_item : Production TheNextEnumItem (TheMark kind.Comma ∷ TheEnumItem ∷ [])
  -- function = "import" ["target"] "function" ("void" | plain) NAME "(" [ param { "," param } ] ")" ";"
  function : Production TheFunction (TheMark kind.Import ∷ TheOption (TheMark kind.Target) ∷ TheMark kind.Function ∷ TheAnswer ∷ TheName ∷ TheMark kind.LeftParenthesis ∷ TheOption TheParameters ∷ TheMark kind.RightParenthesis ∷ TheMark kind.Semicolon ∷ [])
  -- "void" | plain
  answer_void : Production TheAnswer (TheMark kind.Void ∷ [])
  answer_plain : Production TheAnswer (ThePlain ∷ [])
  -- param { "," param }
  parameters : Production TheParameters (TheParameter ∷ TheList TheNextParameter ∷ [])
  -- param = ["input"] plain NAME
  parameter : Production TheParameter (TheOption (TheMark kind.Input) ∷ ThePlain ∷ TheName ∷ [])
  -- "," param
  next_parameter : Production TheNextParameter (TheMark kind.Comma ∷ TheParameter ∷ [])
  -- pool = "pool" [ "[" expr "]" ] tname NAME ";"
  pool : Production ThePool (TheMark kind.Pool ∷ TheOption TheSize ∷ TheTypeName ∷ TheName ∷ TheMark kind.Semicolon ∷ [])
  -- "[" expr "]"
  size : Production TheSize (TheMark kind.LeftBracket ∷ TheExpr ∷ TheMark kind.RightBracket ∷ [])
  -- poolbind = "bind" NAME ( "*" | target | "{" target {"," target} "}" ) ";"
  pool_bind : Production ThePoolBind (TheMark kind.Bind ∷ TheName ∷ TheTargets ∷ TheMark kind.Semicolon ∷ [])
  -- "*" | target | "{" target {"," target} "}"
  targets_all : Production TheTargets (TheMark kind.Star ∷ [])
  targets_one : Production TheTargets (TheTarget ∷ [])
  targets_several : Production TheTargets (TheMark kind.LeftBrace ∷ TheTarget ∷ TheList TheNextTarget ∷ TheMark kind.RightBrace ∷ [])
  -- target = NAME "." NAME { "." NAME }
  target : Production TheTarget (TheName ∷ TheDotName ∷ TheList TheDotName ∷ [])
  -- "," target
  next_target : Production TheNextTarget (TheMark kind.Comma ∷ TheTarget ∷ [])
  -- members = tname NAME { "," NAME } ";"
  members : Production TheMembers (TheTypeName ∷ TheNames ∷ TheMark kind.Semicolon ∷ [])
  -- action = ["abstract"] "action" NAME [ ":" tname ] "{" { field | ref | claim | members | constraint | activity | body | ";" } "}"
  action : Production TheAction (TheOption (TheMark kind.Abstract) ∷ TheMark kind.Action ∷ TheName ∷ TheOption TheBase ∷ TheMark kind.LeftBrace ∷ TheList TheActionPart ∷ TheMark kind.RightBrace ∷ [])
  -- ":" tname
  base : Production TheBase (TheMark kind.Colon ∷ TheTypeName ∷ [])
  -- One part of action between its braces.
  action_part_field : Production TheActionPart (TheField ∷ [])
  action_part_reference : Production TheActionPart (TheReference ∷ [])
  action_part_claim : Production TheActionPart (TheClaim ∷ [])
  action_part_members : Production TheActionPart (TheMembers ∷ [])
  action_part_constraint : Production TheActionPart (TheConstraintDeclaration ∷ [])
  action_part_activity : Production TheActionPart (TheActivity ∷ [])
  action_part_body : Production TheActionPart (TheBody ∷ [])
  action_part_empty : Production TheActionPart (TheMark kind.Semicolon ∷ [])
  -- field = "rand" type NAME [ index ] { "," NAME [ index ] } ";"
  field : Production TheField (TheMark kind.Rand ∷ TheType ∷ ThePart ∷ TheList TheNextField ∷ TheMark kind.Semicolon ∷ [])
  -- "," NAME [ index ]
  next_field : Production TheNextField (TheMark kind.Comma ∷ ThePart ∷ [])
  -- ref = ("input"|"output") tname NAME { "," NAME } ";"
  reference : (word : ReferenceWord) → Production TheReference (TheMark (reference_word_kind word) ∷ TheTypeName ∷ TheNames ∷ TheMark kind.Semicolon ∷ [])
  -- claim = ("lock"|"share") tname NAME { "," NAME } ";"
  claim : (word : ClaimWord) → Production TheClaim (TheMark (claim_word_kind word) ∷ TheTypeName ∷ TheNames ∷ TheMark kind.Semicolon ∷ [])
  -- a part that may be left out
  option_none : (part : Rule) → Production (TheOption part) []
  option_some : (part : Rule) → Production (TheOption part) (part ∷ [])
  -- any number of parts
  list_none : (part : Rule) → Production (TheList part) []
  list_more : (part : Rule) → Production (TheList part) (part ∷ TheList part ∷ [])
