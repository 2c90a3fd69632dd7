use Rattle.std.proofs.Common.{arith}
use Rattle.std.proofs.lemmas.Result.{err_from_is_err_and}
use Rattle.pst_ast.specs.ExpressionView.{view_expr}
use Rattle.pst_parse_expr.proofs.SharedRules.{condition_expr_fails, condition_close_fails, condition_given}
use Rattle.pst_parse_expr.proofs.shared.read_condition.Goals as goal

pub returns-in_err-expr : goal.returns-in_err-expr
returns-in_err-expr c =
    let p = err_from_is_err_and c.from_residual-in_err-expr.result c.from_residual-in_err-expr.ensures.1 in
    rw (p.1, p.2) (condition_expr_fails c.args.tokens.now c.args.at c.args.depth c.in_ok-left_parenthesis.left_parenthesis c.in_ok-left_parenthesis.ensures.reads.0 c.in_err-expr.field-0.0 c.in_err-expr.ensures)

pub returns-in_err-right_parenthesis : goal.returns-in_err-right_parenthesis
returns-in_err-right_parenthesis c =
    let p = err_from_is_err_and c.from_residual-in_err-right_parenthesis.result c.from_residual-in_err-right_parenthesis.ensures.1 in
    rw (p.1, p.2) (condition_close_fails c.args.tokens.now c.args.at c.args.depth c.in_ok-left_parenthesis.left_parenthesis c.in_ok-left_parenthesis.ensures.reads.0 (view_expr c.in_ok-expr.expr) c.in_ok-expr.after (omega (arith, c.in_ok-expr.ensures.after)) c.in_ok-expr.ensures.settles c.in_err-right_parenthesis.field-0.0 c.in_ok-expr.ensures.inside c.in_err-right_parenthesis.ensures.reads)

pub returns : goal.returns
returns c = record {
  settles = condition_given c.args.tokens.now c.args.at c.args.depth c.in_ok-left_parenthesis.left_parenthesis c.in_ok-left_parenthesis.ensures.reads.0 (view_expr c.in_ok-expr.expr) c.in_ok-expr.after (omega (arith, c.in_ok-expr.ensures.after)) c.in_ok-expr.ensures.settles c.in_ok-right_parenthesis.right_parenthesis c.in_ok-right_parenthesis.ensures.reads.0;
  after = omega (arith, c.in_ok-expr.ensures.after);
  inside = c.in_ok-right_parenthesis.ensures.reads.1;
}
