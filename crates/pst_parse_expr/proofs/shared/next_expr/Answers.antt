use Rattle.std.proofs.Common.{arith}
use Rattle.std.proofs.lemmas.Result.{err_from_is_err_and}
use Rattle.pst_ast.specs.ExpressionView.{view_expr}
use Rattle.pst_parse_expr.proofs.SharedRules.{next_expr_fails, next_expr_given}
use Rattle.pst_parse_expr.proofs.shared.next_expr.Goals as goal

pub returns-in_err-expr : goal.returns-in_err-expr
returns-in_err-expr c =
    let p = err_from_is_err_and c.from_residual-in_err-expr.result c.from_residual-in_err-expr.ensures.1 in
    rw (p.1, p.2) (next_expr_fails c.args.tokens.now c.args.at c.args.depth c.in_ok-comma.comma c.in_ok-comma.ensures.reads.0 c.in_err-expr.field-0.0 c.in_err-expr.ensures)

pub returns : goal.returns
returns c = record {
  settles = next_expr_given c.args.tokens.now c.args.at c.args.depth c.in_ok-comma.comma c.in_ok-comma.ensures.reads.0 (view_expr c.in_ok-expr.expr) c.in_ok-expr.after (omega (arith, c.in_ok-expr.ensures.after)) c.in_ok-expr.ensures.settles;
  after = omega (arith, c.in_ok-expr.ensures.after);
  inside = c.in_ok-expr.ensures.inside;
}
