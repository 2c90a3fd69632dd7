use Rattle.std.proofs.Common.{arith, rules}
use Rattle.std.proofs.lemmas.Result.{err_from_is_err_and}
use Rattle.pst_ast.specs.ExpressionView.{view_expr}
use Rattle.pst_ast.specs.BodyView.{view_call}
use Rattle.pst_parse_body.proofs.CallRules.{source_call_fails, source_call_given, source_expr_fails, source_expr_given}
use Rattle.pst_parse_body.proofs.call.source.Goals as goal

pub returns-in_err-call : goal.returns-in_err-call
returns-in_err-call c =
    let p = err_from_is_err_and c.from_residual-in_err-call.result c.from_residual-in_err-call.ensures.1 in
    rw (p.1, p.2) (source_call_fails c.args.tokens.now c.args.at c.args.depth (search rules) c.in_ok-name.name c.in_ok-name.ensures.reads.0 c.in_err-call.field-0.0 c.in_err-call.ensures)

pub returns-then-name_then : goal.returns-then-name_then
returns-then-name_then c =
    let k = c.in_ok-call.ensures in
    record {
      settles = source_call_given c.args.tokens.now c.args.at c.args.depth (search rules) c.in_ok-name.name c.in_ok-name.ensures.reads.0 (view_call c.in_ok-call.call) c.in_ok-call.after k.after k.settles;
      after = omega (arith, k.after);
      inside = k.inside;
    }

pub returns-in_err-expr : goal.returns-in_err-expr
returns-in_err-expr c =
    let p = err_from_is_err_and c.from_residual-in_err-expr.result c.from_residual-in_err-expr.ensures.1 in
    rw (p.1, p.2) (source_expr_fails c.args.tokens.now c.args.at c.args.depth (search rules) c.in_err-expr.field-0.0 c.in_err-expr.ensures)

pub returns : goal.returns
returns c =
    let e = c.in_ok-expr.ensures in
    record {
      settles = source_expr_given c.args.tokens.now c.args.at c.args.depth (search rules) (view_expr c.in_ok-expr.expr) c.in_ok-expr.after e.after e.settles;
      after = e.after;
      inside = e.inside;
    }
