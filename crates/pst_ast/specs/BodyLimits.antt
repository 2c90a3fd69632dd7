-- What counts towards the limits at each token of the trees of bodies; depth derivations that count are open round the tree.
use Rattle.std.specs.Prelude.{ℕ, suc, List, [], ◌∷◌, ◌++◌}
use Rattle.std.specs.List.{flat_map}
use Rattle.pst_ast.specs.BodyTree.{BodyTree, MakeBody, BodyStatementTree, BodyStatementEmpty, BodyStatementLocal, BodyStatementAssign, BodyStatementCall, BodyStatementBlock, BodyStatementIf, BodyStatementIfElse, BodyStatementRepeat, ValueTree, MakeValue, SourceTree, SourceCall, SourceExpr, CallTree, MakeCall, ArgumentsTree, MakeArguments, BodyStatementRow, NoBodyStatementRow, MoreBodyStatementRow}
use Rattle.pst_ast.specs.Limits.{Count, counted, counts_option}
use Rattle.pst_ast.specs.ExpressionLimits.{counts_expr}
use Rattle.pst_ast.specs.SharedLimits.{counts_label, counts_next_expr, counts_plain}

-- expr { "," expr }
abbrev pub counts_arguments : ℕ → ArgumentsTree → List Count
counts_arguments depth (MakeArguments first rest) = counts_expr depth 0 first ++ flat_map (counts_next_expr depth) rest

-- call = NAME "(" [ expr { "," expr } ] ")"
abbrev pub counts_call : ℕ → CallTree → List Count
counts_call depth (MakeCall name left_parenthesis_place arguments right_parenthesis_place) = counted depth 0 ∷ counted depth 0 ∷ (counts_option (counts_arguments depth) arguments ++ counted depth 0 ∷ [])

-- source = call | expr
abbrev pub counts_source : ℕ → SourceTree → List Count
counts_source depth (SourceCall call) = counts_call depth call
counts_source depth (SourceExpr expr) = counts_expr depth 0 expr

-- "=" source
abbrev pub counts_value : ℕ → ValueTree → List Count
counts_value depth (MakeValue equal_place source) = counted depth 0 ∷ counts_source depth source

abbrev mutual
  -- bstmt: a statement of a body.
  pub counts_body_statement : ℕ → BodyStatementTree → List Count
  counts_body_statement depth (BodyStatementEmpty place) = counted (suc depth) 0 ∷ []
  counts_body_statement depth (BodyStatementLocal plain name value semicolon_place) = counts_plain (suc depth) plain ++ counted (suc depth) 0 ∷ (counts_option (counts_value (suc depth)) value ++ counted (suc depth) 0 ∷ [])
  counts_body_statement depth (BodyStatementAssign name equal_place source semicolon_place) = counted (suc depth) 0 ∷ counted (suc depth) 0 ∷ (counts_source (suc depth) source ++ counted (suc depth) 0 ∷ [])
  counts_body_statement depth (BodyStatementCall call semicolon_place) = counts_call (suc depth) call ++ counted (suc depth) 0 ∷ []
  counts_body_statement depth (BodyStatementBlock left_brace_place statements right_brace_place) = counted (suc depth) 0 ∷ (counts_body_statement_row (suc depth) statements ++ counted (suc depth) 0 ∷ [])
  counts_body_statement depth (BodyStatementIf if_place left_parenthesis_place condition right_parenthesis_place then_part) = counted (suc depth) 0 ∷ counted (suc depth) 0 ∷ (counts_expr (suc depth) 0 condition ++ counted (suc depth) 0 ∷ counts_body_statement (suc depth) then_part)
  counts_body_statement depth (BodyStatementIfElse if_place left_parenthesis_place condition right_parenthesis_place then_part else_place otherwise) = counted (suc depth) 0 ∷ counted (suc depth) 0 ∷ (counts_expr (suc depth) 0 condition ++ counted (suc depth) 0 ∷ (counts_body_statement (suc depth) then_part ++ counted (suc depth) 0 ∷ counts_body_statement (suc depth) otherwise))
  counts_body_statement depth (BodyStatementRepeat repeat_place left_parenthesis_place index count right_parenthesis_place statement) = counted (suc depth) 0 ∷ counted (suc depth) 0 ∷ (counts_option (counts_label (suc depth)) index ++ (counts_expr (suc depth) 0 count ++ counted (suc depth) 0 ∷ counts_body_statement (suc depth) statement))

  pub counts_body_statement_row : ℕ → BodyStatementRow → List Count
  counts_body_statement_row depth NoBodyStatementRow = []
  counts_body_statement_row depth (MoreBodyStatementRow head tail) = counts_body_statement depth head ++ counts_body_statement_row depth tail

-- body = "exec" "body" "{" { bstmt } "}"
abbrev pub counts_body : ℕ → BodyTree → List Count
counts_body depth (MakeBody exec_place body_place left_brace_place statements right_brace_place) = counted depth 0 ∷ counted depth 0 ∷ counted depth 0 ∷ (flat_map (counts_body_statement depth) statements ++ counted depth 0 ∷ [])
