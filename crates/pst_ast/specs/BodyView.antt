-- The trees of the program of body without where they lie in memory.
use Rattle.std.specs.Prelude.{map}
use Rattle.std.specs.Option.{option_map}
use Rattle.std.specs.Global.{Box}
use Rattle.pst_ast.specs.ExpressionView.{view_expr}
use Rattle.pst_ast.specs.SharedView.{view_next_expr, view_plain}
use Rattle.pst_ast.specs.BodyTree.{BodyTree, MakeBody, BodyStatementTree, BodyStatementEmpty, BodyStatementLocal, BodyStatementAssign, BodyStatementCall, BodyStatementBlock, BodyStatementIf, BodyStatementIfElse, BodyStatementRepeat, ValueTree, MakeValue, SourceTree, SourceCall, SourceExpr, CallTree, MakeCall, ArgumentsTree, MakeArguments, BodyStatementRow, NoBodyStatementRow, MoreBodyStatementRow}
use Rattle.pst_ast.specs.declared.body.BodyNode.{BodyNode}
use Rattle.pst_ast.specs.declared.body.BodyStatement.{BodyStatement, Row_of-BodyStatement, end_of-BodyStatement, more_of-BodyStatement}
use Rattle.pst_ast.specs.declared.body.BodyStatement.TheVariants as the_body_statement
use Rattle.pst_ast.specs.declared.body.ValueNode.{ValueNode}
use Rattle.pst_ast.specs.declared.body.SourceNode.{SourceNode}
use Rattle.pst_ast.specs.declared.body.SourceNode.TheVariants as the_source
use Rattle.pst_ast.specs.declared.body.CallNode.{CallNode}
use Rattle.pst_ast.specs.declared.body.ArgumentsNode.{ArgumentsNode}

-- expr { "," expr }
abbrev pub view_arguments : ArgumentsNode → ArgumentsTree
view_arguments t = MakeArguments (view_expr t.first) (map view_next_expr t.rest.items)

-- call = NAME "(" [ expr { "," expr } ] ")"
abbrev pub view_call : CallNode → CallTree
view_call t = MakeCall t.name t.left_parenthesis (option_map view_arguments t.arguments) t.right_parenthesis

-- source = call | expr
abbrev pub view_source : SourceNode → SourceTree
view_source (the_source.Call call) = SourceCall (view_call call)
view_source (the_source.Expr expr) = SourceExpr (view_expr expr)

-- "=" source
abbrev pub view_value : ValueNode → ValueTree
view_value t = MakeValue t.equal (view_source t.source)

abbrev pub view_boxed_value : Box ValueNode → ValueTree
view_boxed_value b = view_value b.value

abbrev mutual
  pub view_body_statement : BodyStatement → BodyStatementTree
  view_body_statement (the_body_statement.Empty place) = BodyStatementEmpty place
  view_body_statement (the_body_statement.Local plain name value semicolon_place) = BodyStatementLocal (view_plain plain.value) name (option_map view_boxed_value value) semicolon_place
  view_body_statement (the_body_statement.Assign name equal_place source semicolon_place) = BodyStatementAssign name equal_place (view_source source.value) semicolon_place
  view_body_statement (the_body_statement.Call call semicolon_place) = BodyStatementCall (view_call call.value) semicolon_place
  view_body_statement (the_body_statement.Block' left_brace_place shape statements right_brace_place) = BodyStatementBlock left_brace_place (view_body_statement_row statements) right_brace_place
  view_body_statement (the_body_statement.If' if_place left_parenthesis_place condition right_parenthesis_place pointer then_part) = BodyStatementIf if_place left_parenthesis_place (view_expr condition.value) right_parenthesis_place (view_body_statement then_part)
  view_body_statement (the_body_statement.IfElse' if_place left_parenthesis_place condition right_parenthesis_place pointer then_part else_place pointer1 otherwise) = BodyStatementIfElse if_place left_parenthesis_place (view_expr condition.value) right_parenthesis_place (view_body_statement then_part) else_place (view_body_statement otherwise)
  view_body_statement (the_body_statement.Repeat' repeat_place left_parenthesis_place index count right_parenthesis_place pointer statement) = BodyStatementRepeat repeat_place left_parenthesis_place index (view_expr count.value) right_parenthesis_place (view_body_statement statement)

  pub view_body_statement_row : {m : _} → Row_of-BodyStatement m → BodyStatementRow
  view_body_statement_row end_of-BodyStatement = NoBodyStatementRow
  view_body_statement_row (more_of-BodyStatement head tail) = MoreBodyStatementRow (view_body_statement head) (view_body_statement_row tail)

-- body = "exec" "body" "{" { bstmt } "}"
abbrev pub view_body : BodyNode → BodyTree
view_body t = MakeBody t.exec t.body t.left_brace (map view_body_statement t.statements.items) t.right_brace
