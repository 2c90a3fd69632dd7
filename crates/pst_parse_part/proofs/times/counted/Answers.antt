use Rattle.std.proofs.Common.{arith}
use Rattle.std.proofs.lemmas.Result.{err_from_is_err_and}
use Rattle.pst_ast.specs.ExpressionView.{view_expr}
use Rattle.pst_parse_part.proofs.TimesRules.{counted_fails, counted_close_fails, counted_given}
use Rattle.pst_parse_part.proofs.times.counted.Goals as goal

pub returns-in_err-count : goal.returns-in_err-count
returns-in_err-count c =
    let p = err_from_is_err_and c.from_residual.result c.from_residual.ensures.1 in
    rw (p.1, p.2) (counted_fails c.args.tokens.now c.args.at c.args.depth c.args.left_parenthesis c.args.index c.in_err-count.field-0.0 c.in_err-count.ensures)

pub returns-in_err-right_parenthesis : goal.returns-in_err-right_parenthesis
returns-in_err-right_parenthesis c =
    let p = err_from_is_err_and c.from_residual-in_err-right_parenthesis.result c.from_residual-in_err-right_parenthesis.ensures.1 in
    let e = c.in_ok-count.ensures in
    rw (p.1, p.2) (counted_close_fails c.args.tokens.now c.args.at c.args.depth c.args.left_parenthesis c.args.index (view_expr c.in_ok-count.count) c.in_ok-count.after e.after e.inside e.settles c.in_err-right_parenthesis.field-0.0 c.in_err-right_parenthesis.ensures.reads)

pub returns : goal.returns
returns c =
    let e = c.in_ok-count.ensures in
    record {
      settles = counted_given c.args.tokens.now c.args.at c.args.depth c.args.left_parenthesis c.args.index (view_expr c.in_ok-count.count) c.in_ok-count.after e.after e.inside e.settles c.in_ok-right_parenthesis.right_parenthesis c.in_ok-right_parenthesis.ensures.reads.0;
      after = omega (arith, e.after);
      inside = c.in_ok-right_parenthesis.ensures.reads.1;
    }
