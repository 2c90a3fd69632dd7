-- No body has the token `End` in it.
use Rattle.std.proofs.Common.{List, [], ◌∷◌, Option, Some, None}
use Rattle.std.specs.List.{flat_map}
use Rattle.pst_ast.specs.declared.shared.LabelNode.{LabelNode}
use Rattle.pst_ast.specs.Marks.{spell_option}
use Rattle.pst_ast.specs.ExpressionSpelling.{spell_expr}
use Rattle.pst_ast.specs.SharedSpelling.{spell_label, spell_plain}
use Rattle.pst_ast.specs.BodyTree.{BodyTree, MakeBody, BodyStatementTree, BodyStatementEmpty, BodyStatementLocal, BodyStatementAssign, BodyStatementCall, BodyStatementBlock, BodyStatementIf, BodyStatementIfElse, BodyStatementRepeat, ValueTree, MakeValue, SourceTree, SourceCall, SourceExpr, CallTree, MakeCall, ArgumentsTree, MakeArguments, BodyStatementRow, NoBodyStatementRow, MoreBodyStatementRow}
use Rattle.pst_ast.specs.BodySpelling.{spell_arguments, spell_call, spell_source, spell_value, spell_body_statement, spell_body_statement_row, spell_body}
use Rattle.pst_reading.proofs.Whole.{NoEnd, both_free}
use Rattle.pst_parse_operator.proofs.NoEnd.{expr_free}
use Rattle.pst_parse_expr.proofs.ConstraintNoEnd.{next_exprs_free}
use Rattle.pst_parse_part.proofs.NoEnd.{plain_free}

arguments_free : (a : Option ArgumentsTree) → NoEnd (spell_option spell_arguments a)
arguments_free None = tt
arguments_free (Some (MakeArguments e es)) = both_free (spell_expr e) _ (expr_free e) (next_exprs_free es)

call_free : (k : CallTree) → NoEnd (spell_call k)
call_free (MakeCall n l a r) = (λ f. cc, (λ f. cc, both_free (spell_option spell_arguments a) _ (arguments_free a) (λ f. cc, tt)))

source_free : (s : SourceTree) → NoEnd (spell_source s)
source_free (SourceCall k) = call_free k
source_free (SourceExpr e) = expr_free e

value_free : (v : Option ValueTree) → NoEnd (spell_option spell_value v)
value_free None = tt
value_free (Some (MakeValue equal s)) = (λ f. cc, source_free s)

label_free : (i : Option LabelNode) → NoEnd (spell_option spell_label i)
label_free None = tt
label_free (Some i) = (λ f. cc, (λ f. cc, tt))

mutual
  statement_free : (s : BodyStatementTree) → NoEnd (spell_body_statement s)
  statement_free (BodyStatementEmpty p) = (λ f. cc, tt)
  statement_free (BodyStatementLocal plain n v p) = both_free (spell_plain plain) _ (plain_free plain) (λ f. cc, both_free (spell_option spell_value v) _ (value_free v) (λ f. cc, tt))
  statement_free (BodyStatementAssign n e s p) = (λ f. cc, (λ f. cc, both_free (spell_source s) _ (source_free s) (λ f. cc, tt)))
  statement_free (BodyStatementCall k p) = both_free (spell_call k) _ (call_free k) (λ f. cc, tt)
  statement_free (BodyStatementBlock l ss r) = (λ f. cc, both_free (spell_body_statement_row ss) _ (row_free ss) (λ f. cc, tt))
  statement_free (BodyStatementIf i l e r t) = (λ f. cc, (λ f. cc, both_free (spell_expr e) _ (expr_free e) (λ f. cc, statement_free t)))
  statement_free (BodyStatementIfElse i l e r t x o) = (λ f. cc, (λ f. cc, both_free (spell_expr e) _ (expr_free e) (λ f. cc, both_free (spell_body_statement t) _ (statement_free t) (λ f. cc, statement_free o))))
  statement_free (BodyStatementRepeat r l i e c s) = (λ f. cc, (λ f. cc, both_free (spell_option spell_label i) _ (label_free i) (both_free (spell_expr e) _ (expr_free e) (λ f. cc, statement_free s))))

  row_free : (ss : BodyStatementRow) → NoEnd (spell_body_statement_row ss)
  row_free NoBodyStatementRow = tt
  row_free (MoreBodyStatementRow s ss) = both_free (spell_body_statement s) (spell_body_statement_row ss) (statement_free s) (row_free ss)

statements_free : (ss : List BodyStatementTree) → NoEnd (flat_map spell_body_statement ss)
statements_free [] = tt
statements_free (s ∷ ss) = both_free (spell_body_statement s) (flat_map spell_body_statement ss) (statement_free s) (statements_free ss)

pub body_free : (b : BodyTree) → NoEnd (spell_body b)
body_free (MakeBody e b l ss r) = (λ f. cc, (λ f. cc, (λ f. cc, both_free (flat_map spell_body_statement ss) _ (statements_free ss) (λ f. cc, tt))))
