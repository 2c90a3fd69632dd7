-- Trees that group as their tokens are read: body.
use Rattle.std.specs.Prelude.{◌≡◌, Bool, true, false}
use Rattle.std.specs.List.{AllByRecursion}
use Rattle.pst_ast.specs.Marks.{OptionIs}
use Rattle.pst_ast.specs.ExpressionProper.{IsProperExpr}
use Rattle.pst_ast.specs.SharedProper.{IsProperNextExpr, IsProperPlain}
use Rattle.pst_ast.specs.BodyTree.{BodyTree, MakeBody, BodyStatementTree, BodyStatementEmpty, BodyStatementLocal, BodyStatementAssign, BodyStatementCall, BodyStatementBlock, BodyStatementIf, BodyStatementIfElse, BodyStatementRepeat, ValueTree, MakeValue, SourceTree, SourceCall, SourceExpr, CallTree, MakeCall, ArgumentsTree, MakeArguments, BodyStatementRow, NoBodyStatementRow, MoreBodyStatementRow}

-- whether an `else` behind it would be its own
abbrev pub body_ends_open : BodyStatementTree → Bool
body_ends_open (BodyStatementIf if_place left condition right then_part) = true
body_ends_open (BodyStatementIfElse if_place left condition right then_part else_place otherwise) = body_ends_open otherwise
body_ends_open (BodyStatementRepeat repeat_place left index count right statement) = body_ends_open statement
body_ends_open _ = false

-- expr { "," expr }
abbrev pub IsProperArguments : ArgumentsTree → Type 0
IsProperArguments (MakeArguments first rest) = IsProperExpr first × AllByRecursion IsProperNextExpr rest

-- call = NAME "(" [ expr { "," expr } ] ")"
abbrev pub IsProperCall : CallTree → Type 0
IsProperCall (MakeCall name left_parenthesis_place arguments right_parenthesis_place) = OptionIs IsProperArguments arguments

-- source = call | expr
abbrev pub IsProperSource : SourceTree → Type 0
IsProperSource (SourceCall call) = IsProperCall call
IsProperSource (SourceExpr expr) = IsProperExpr expr

-- "=" source
abbrev pub IsProperValue : ValueTree → Type 0
IsProperValue (MakeValue equal_place source) = IsProperSource source

abbrev mutual
  -- bstmt: a statement of a body.
  pub IsProperBodyStatement : BodyStatementTree → Type 0
  IsProperBodyStatement (BodyStatementEmpty place) = Unit {0}
  IsProperBodyStatement (BodyStatementLocal plain name value semicolon_place) = IsProperPlain plain × OptionIs IsProperValue value
  IsProperBodyStatement (BodyStatementAssign name equal_place source semicolon_place) = IsProperSource source
  IsProperBodyStatement (BodyStatementCall call semicolon_place) = IsProperCall call
  IsProperBodyStatement (BodyStatementBlock left_brace_place statements right_brace_place) = AreProperBodyStatement statements
  IsProperBodyStatement (BodyStatementIf if_place left_parenthesis_place condition right_parenthesis_place then_part) = IsProperExpr condition × IsProperBodyStatement then_part
  IsProperBodyStatement (BodyStatementIfElse if_place left_parenthesis_place condition right_parenthesis_place then_part else_place otherwise) = IsProperExpr condition × IsProperBodyStatement then_part × IsProperBodyStatement otherwise × (body_ends_open then_part ≡ false)
  IsProperBodyStatement (BodyStatementRepeat repeat_place left_parenthesis_place index count right_parenthesis_place statement) = IsProperExpr count × IsProperBodyStatement statement

  pub AreProperBodyStatement : BodyStatementRow → Type 0
  AreProperBodyStatement NoBodyStatementRow = Unit {0}
  AreProperBodyStatement (MoreBodyStatementRow head tail) = IsProperBodyStatement head × AreProperBodyStatement tail

-- body = "exec" "body" "{" { bstmt } "}"
abbrev pub IsProperBody : BodyTree → Type 0
IsProperBody (MakeBody exec_place body_place left_brace_place statements right_brace_place) = AllByRecursion IsProperBodyStatement statements
