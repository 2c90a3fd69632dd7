use Rattle.std.proofs.Common.{arith, ◌-◌}
use Rattle.std.proofs.lemmas.Result.{err_from_is_err_and}
use Rattle.pst_ast.specs.ExpressionView.{view_expr}
use Rattle.pst_parse_step.proofs.ActivityLabelRules.{weight_expr_fails, weight_given, weight_left_bracket_fails, weight_right_bracket_fails}
use Rattle.pst_parse_step.proofs.labels.weight.Goals as goal

pub returns-in_err-left_bracket : goal.returns-in_err-left_bracket
returns-in_err-left_bracket c =
    let p = err_from_is_err_and c.from_residual.result c.from_residual.ensures.1 in
    rw (p.1, p.2) (weight_left_bracket_fails c.args.tokens.now c.args.at c.args.depth c.in_err-left_bracket.field-0.0 c.requires.inside c.in_err-left_bracket.ensures.reads)

pub returns-in_err-expr : goal.returns-in_err-expr
returns-in_err-expr c =
    let p = err_from_is_err_and c.from_residual-in_err-expr.result c.from_residual-in_err-expr.ensures.1 in
    rw (p.1, p.2) (weight_expr_fails c.args.tokens.now c.args.at c.args.depth c.in_ok-left_bracket.left_bracket c.in_ok-left_bracket.ensures.reads.0 c.in_ok-left_bracket.ensures.reads.1 (omega (arith, c.in_ok-left_bracket.ensures.reads.1)) c.in_err-expr.field-0.0 c.in_err-expr.ensures)

pub returns-in_err-right_bracket : goal.returns-in_err-right_bracket
returns-in_err-right_bracket c =
    let p = err_from_is_err_and c.from_residual-in_err-right_bracket.result c.from_residual-in_err-right_bracket.ensures.1 in
    rw (p.1, p.2) (weight_right_bracket_fails c.args.tokens.now c.args.at c.args.depth c.in_ok-left_bracket.left_bracket c.in_ok-left_bracket.ensures.reads.0 c.in_ok-left_bracket.ensures.reads.1 (view_expr c.in_ok-expr.expr) c.in_ok-expr.after c.in_ok-expr.ensures.after c.in_ok-expr.ensures.inside c.in_ok-expr.ensures.settles c.in_err-right_bracket.field-0.0 (omega (arith, c.in_ok-expr.ensures.inside)) c.in_err-right_bracket.ensures.reads)

pub returns : goal.returns
returns c = record {
  settles = weight_given c.args.tokens.now c.args.at c.args.depth c.in_ok-left_bracket.left_bracket c.in_ok-left_bracket.ensures.reads.0 c.in_ok-left_bracket.ensures.reads.1 (view_expr c.in_ok-expr.expr) c.in_ok-expr.after c.in_ok-expr.ensures.after c.in_ok-expr.ensures.inside c.in_ok-expr.ensures.settles c.in_ok-right_bracket.right_bracket c.in_ok-right_bracket.ensures.reads.0 c.in_ok-right_bracket.ensures.reads.1;
  after = omega (arith, c.in_ok-expr.ensures.after);
  inside = c.in_ok-right_bracket.ensures.reads.1;
}
