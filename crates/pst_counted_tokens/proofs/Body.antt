-- Each token of a tree counts once: the trees of body.
use Rattle.std.proofs.Common.{◌≡◌, ℕ, suc, length, ap, refl, ◌∷◌, ◌++◌}
use Rattle.pst_ast.specs.BodyTree.{BodyTree, MakeBody, BodyStatementTree, BodyStatementEmpty, BodyStatementLocal, BodyStatementAssign, BodyStatementCall, BodyStatementBlock, BodyStatementIf, BodyStatementIfElse, BodyStatementRepeat, ValueTree, MakeValue, SourceTree, SourceCall, SourceExpr, CallTree, MakeCall, ArgumentsTree, MakeArguments, BodyStatementRow, NoBodyStatementRow, MoreBodyStatementRow}
use Rattle.pst_ast.specs.BodyLimits.{counts_arguments, counts_call, counts_source, counts_value, counts_body_statement, counts_body_statement_row, counts_body}
use Rattle.pst_ast.specs.BodySpelling.{spell_arguments, spell_call, spell_source, spell_value, spell_body_statement, spell_body_statement_row, spell_body}
use Rattle.pst_ast.specs.Limits.{counted, counts_option}
use Rattle.pst_ast.specs.Marks.{mark, spell_option}
use Rattle.pst_token.specs.declared.kind.Kind.TheVariants as kind
use Rattle.pst_ast.specs.ExpressionLimits.{counts_expr}
use Rattle.pst_ast.specs.ExpressionSpelling.{spell_expr}
use Rattle.pst_ast.specs.SharedLimits.{counts_label}
use Rattle.pst_ast.specs.SharedSpelling.{spell_label}
use Rattle.pst_counted_tokens.proofs.Expression.{each_expr}
use Rattle.pst_counted_tokens.proofs.Shared.{each_label, each_next_expr, each_plain}
use Rattle.pst_counted_tokens.proofs.Rows.{behind, each_of_list, each_of_option}

pub each_arguments : (depth : ℕ) (t : ArgumentsTree) → length (counts_arguments depth t) ≡ length (spell_arguments t)
each_arguments depth (MakeArguments first rest) = behind _ _ _ _ (each_expr depth 0 first) (each_of_list _ _ (λ x. each_next_expr depth x) rest)

pub each_call : (depth : ℕ) (t : CallTree) → length (counts_call depth t) ≡ length (spell_call t)
each_call depth (MakeCall name left_parenthesis_place arguments right_parenthesis_place) = ap suc (ap suc (behind _ _ _ _ (each_of_option _ _ (λ x. each_arguments depth x) arguments) refl))

pub each_source : (depth : ℕ) (t : SourceTree) → length (counts_source depth t) ≡ length (spell_source t)
each_source depth (SourceCall call) = each_call depth call
each_source depth (SourceExpr expr) = each_expr depth 0 expr

pub each_value : (depth : ℕ) (t : ValueTree) → length (counts_value depth t) ≡ length (spell_value t)
each_value depth (MakeValue equal_place source) = ap suc (each_source depth source)

mutual
  pub each_body_statement : (depth : ℕ) (t : BodyStatementTree) → length (counts_body_statement depth t) ≡ length (spell_body_statement t)
  each_body_statement depth (BodyStatementEmpty place) = refl
  each_body_statement depth (BodyStatementLocal plain name value semicolon_place) = behind _ _ _ _ (each_plain (suc depth) plain) (ap suc (behind _ _ _ _ (each_of_option _ _ (λ x. each_value (suc depth) x) value) refl))
  each_body_statement depth (BodyStatementAssign name equal_place source semicolon_place) = ap suc (ap suc (behind _ _ _ _ (each_source (suc depth) source) refl))
  each_body_statement depth (BodyStatementCall call semicolon_place) = behind _ _ _ _ (each_call (suc depth) call) refl
  each_body_statement depth (BodyStatementBlock left_brace_place statements right_brace_place) = ap suc (behind _ _ _ _ (each_body_statement_row (suc depth) statements) refl)
  each_body_statement depth (BodyStatementIf if_place left_parenthesis_place condition right_parenthesis_place then_part) = ap suc (ap suc (behind _ _ _ _ (each_expr (suc depth) 0 condition) (ap suc (each_body_statement (suc depth) then_part))))
  each_body_statement depth (BodyStatementIfElse if_place left_parenthesis_place condition right_parenthesis_place then_part else_place otherwise) = ap suc (ap suc (behind _ _ _ _ (each_expr (suc depth) 0 condition) (ap suc (behind _ _ _ _ (each_body_statement (suc depth) then_part) (ap suc (each_body_statement (suc depth) otherwise))))))
  each_body_statement depth (BodyStatementRepeat repeat_place left_parenthesis_place index count right_parenthesis_place statement) = ap suc (ap suc (behind (counts_option (counts_label (suc depth)) index) ((counts_expr (suc depth) 0 count) ++ ((counted (suc depth) 0) ∷ (counts_body_statement (suc depth) statement))) (spell_option spell_label index) ((spell_expr count) ++ ((mark kind.RightParenthesis right_parenthesis_place) ∷ (spell_body_statement statement))) (each_of_option (counts_label (suc depth)) spell_label (λ x. each_label (suc depth) x) index) (behind _ _ _ _ (each_expr (suc depth) 0 count) (ap suc (each_body_statement (suc depth) statement)))))

  pub each_body_statement_row : (depth : ℕ) (t : BodyStatementRow) → length (counts_body_statement_row depth t) ≡ length (spell_body_statement_row t)
  each_body_statement_row depth NoBodyStatementRow = refl
  each_body_statement_row depth (MoreBodyStatementRow head tail) = behind _ _ _ _ (each_body_statement depth head) (each_body_statement_row depth tail)

pub each_body : (depth : ℕ) (t : BodyTree) → length (counts_body depth t) ≡ length (spell_body t)
each_body depth (MakeBody exec_place body_place left_brace_place statements right_brace_place) = ap suc (ap suc (ap suc (behind _ _ _ _ (each_of_list _ _ (λ x. each_body_statement depth x) statements) refl)))
