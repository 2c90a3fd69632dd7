-- The tokens of the trees of body.
use Rattle.std.specs.Prelude.{List, [], ◌∷◌, ◌++◌}
use Rattle.std.specs.List.{flat_map}
use Rattle.pst_token.specs.declared.token.Token.{Token}
use Rattle.pst_token.specs.declared.kind.Kind.TheVariants as kind
use Rattle.pst_ast.specs.Marks.{mark, name_token, spell_option}
use Rattle.pst_ast.specs.ExpressionSpelling.{spell_expr}
use Rattle.pst_ast.specs.SharedSpelling.{spell_label, spell_next_expr, spell_plain}
use Rattle.pst_ast.specs.BodyTree.{BodyTree, MakeBody, BodyStatementTree, BodyStatementEmpty, BodyStatementLocal, BodyStatementAssign, BodyStatementCall, BodyStatementBlock, BodyStatementIf, BodyStatementIfElse, BodyStatementRepeat, ValueTree, MakeValue, SourceTree, SourceCall, SourceExpr, CallTree, MakeCall, ArgumentsTree, MakeArguments, BodyStatementRow, NoBodyStatementRow, MoreBodyStatementRow}

-- expr { "," expr }
abbrev pub spell_arguments : ArgumentsTree → List Token
spell_arguments (MakeArguments first rest) = spell_expr first ++ flat_map spell_next_expr rest

-- call = NAME "(" [ expr { "," expr } ] ")"
abbrev pub spell_call : CallTree → List Token
spell_call (MakeCall name left_parenthesis_place arguments right_parenthesis_place) = name_token name ∷ mark kind.LeftParenthesis left_parenthesis_place ∷ (spell_option spell_arguments arguments ++ mark kind.RightParenthesis right_parenthesis_place ∷ [])

-- source = call | expr
abbrev pub spell_source : SourceTree → List Token
spell_source (SourceCall call) = spell_call call
spell_source (SourceExpr expr) = spell_expr expr

-- "=" source
abbrev pub spell_value : ValueTree → List Token
spell_value (MakeValue equal_place source) = mark kind.Equal equal_place ∷ spell_source source

abbrev mutual
  -- bstmt: a statement of a body.
  pub spell_body_statement : BodyStatementTree → List Token
  spell_body_statement (BodyStatementEmpty place) = mark kind.Semicolon place ∷ []
  spell_body_statement (BodyStatementLocal plain name value semicolon_place) = spell_plain plain ++ name_token name ∷ (spell_option spell_value value ++ mark kind.Semicolon semicolon_place ∷ [])
  spell_body_statement (BodyStatementAssign name equal_place source semicolon_place) = name_token name ∷ mark kind.Equal equal_place ∷ (spell_source source ++ mark kind.Semicolon semicolon_place ∷ [])
  spell_body_statement (BodyStatementCall call semicolon_place) = spell_call call ++ mark kind.Semicolon semicolon_place ∷ []
  spell_body_statement (BodyStatementBlock left_brace_place statements right_brace_place) = mark kind.LeftBrace left_brace_place ∷ (spell_body_statement_row statements ++ mark kind.RightBrace right_brace_place ∷ [])
  spell_body_statement (BodyStatementIf if_place left_parenthesis_place condition right_parenthesis_place then_part) = mark kind.If if_place ∷ mark kind.LeftParenthesis left_parenthesis_place ∷ (spell_expr condition ++ mark kind.RightParenthesis right_parenthesis_place ∷ spell_body_statement then_part)
  spell_body_statement (BodyStatementIfElse if_place left_parenthesis_place condition right_parenthesis_place then_part else_place otherwise) = mark kind.If if_place ∷ mark kind.LeftParenthesis left_parenthesis_place ∷ (spell_expr condition ++ mark kind.RightParenthesis right_parenthesis_place ∷ (spell_body_statement then_part ++ mark kind.Else else_place ∷ spell_body_statement otherwise))
  spell_body_statement (BodyStatementRepeat repeat_place left_parenthesis_place index count right_parenthesis_place statement) = mark kind.Repeat repeat_place ∷ mark kind.LeftParenthesis left_parenthesis_place ∷ (spell_option spell_label index ++ (spell_expr count ++ mark kind.RightParenthesis right_parenthesis_place ∷ spell_body_statement statement))

  pub spell_body_statement_row : BodyStatementRow → List Token
  spell_body_statement_row NoBodyStatementRow = []
  spell_body_statement_row (MoreBodyStatementRow head tail) = spell_body_statement head ++ spell_body_statement_row tail

-- body = "exec" "body" "{" { bstmt } "}"
abbrev pub spell_body : BodyTree → List Token
spell_body (MakeBody exec_place body_place left_brace_place statements right_brace_place) = mark kind.Exec exec_place ∷ mark kind.Body body_place ∷ mark kind.LeftBrace left_brace_place ∷ (flat_map spell_body_statement statements ++ mark kind.RightBrace right_brace_place ∷ [])
