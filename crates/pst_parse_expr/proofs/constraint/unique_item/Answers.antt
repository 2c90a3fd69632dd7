use Rattle.std.proofs.Common.{arith}
use Rattle.std.specs.Prelude.{map}
use Rattle.std.proofs.lemmas.Result.{err_from_is_err_and}
use Rattle.pst_ast.specs.ExpressionView.{view_expr}
use Rattle.pst_ast.specs.SharedView.{view_next_expr}
use Rattle.pst_parse_expr.proofs.ConstraintRules.{unique_first_fails, unique_rest_fails, unique_brace_fails, unique_semicolon_fails, unique_given}
use Rattle.pst_parse_expr.proofs.constraint.unique_item.Goals as goal

pub returns-in_err-first : goal.returns-in_err-first
returns-in_err-first c =
    let p = err_from_is_err_and c.from_residual-in_err-first.result c.from_residual-in_err-first.ensures.1 in
    rw (p.1, p.2) (unique_first_fails c.args.tokens.now c.args.at c.args.depth c.in_ok-unique.unique c.in_ok-unique.ensures.reads.0 c.in_ok-left_brace.left_brace c.in_ok-left_brace.ensures.reads.0 c.in_err-first.field-0.0 c.in_err-first.ensures)

pub returns-in_err-rest : goal.returns-in_err-rest
returns-in_err-rest c =
    let p = err_from_is_err_and c.from_residual-in_err-rest.result c.from_residual-in_err-rest.ensures.1 in
    let e = c.in_ok-first.ensures in
    rw (p.1, p.2) (unique_rest_fails c.args.tokens.now c.args.at c.args.depth c.in_ok-unique.unique c.in_ok-unique.ensures.reads.0 c.in_ok-left_brace.left_brace c.in_ok-left_brace.ensures.reads.0 (view_expr c.in_ok-first.first) c.in_ok-first.behind e.after e.settles c.in_err-rest.field-0.0 c.in_err-rest.ensures)

pub returns-in_err-right_brace : goal.returns-in_err-right_brace
returns-in_err-right_brace c =
    let p = err_from_is_err_and c.from_residual-in_err-right_brace.result c.from_residual-in_err-right_brace.ensures.1 in
    let e = c.in_ok-first.ensures in
    let l = c.in_ok-rest.ensures in
    rw (p.1, p.2) (unique_brace_fails c.args.tokens.now c.args.at c.args.depth c.in_ok-unique.unique c.in_ok-unique.ensures.reads.0 c.in_ok-left_brace.left_brace c.in_ok-left_brace.ensures.reads.0 (view_expr c.in_ok-first.first) c.in_ok-first.behind e.after e.settles (map view_next_expr c.in_ok-rest.rest.items) c.in_ok-rest.after l.after l.inside l.settles c.in_err-right_brace.field-0.0 c.in_err-right_brace.ensures.reads)

pub returns-in_err-semicolon : goal.returns-in_err-semicolon
returns-in_err-semicolon c =
    let p = err_from_is_err_and c.from_residual-in_err-semicolon.result c.from_residual-in_err-semicolon.ensures.1 in
    let e = c.in_ok-first.ensures in
    let l = c.in_ok-rest.ensures in
    rw (p.1, p.2) (unique_semicolon_fails c.args.tokens.now c.args.at c.args.depth c.in_ok-unique.unique c.in_ok-unique.ensures.reads.0 c.in_ok-left_brace.left_brace c.in_ok-left_brace.ensures.reads.0 (view_expr c.in_ok-first.first) c.in_ok-first.behind e.after e.settles (map view_next_expr c.in_ok-rest.rest.items) c.in_ok-rest.after l.after l.inside l.settles c.in_ok-right_brace.right_brace c.in_ok-right_brace.ensures.reads.0 c.in_ok-right_brace.ensures.reads.1 c.in_err-semicolon.field-0.0 c.in_err-semicolon.ensures.reads)

pub returns : goal.returns
returns c =
    let e = c.in_ok-first.ensures in
    let l = c.in_ok-rest.ensures in
    record {
      settles = unique_given c.args.tokens.now c.args.at c.args.depth c.in_ok-unique.unique c.in_ok-unique.ensures.reads.0 c.in_ok-left_brace.left_brace c.in_ok-left_brace.ensures.reads.0 (view_expr c.in_ok-first.first) c.in_ok-first.behind e.after e.settles (map view_next_expr c.in_ok-rest.rest.items) c.in_ok-rest.after l.after l.inside l.settles c.in_ok-right_brace.right_brace c.in_ok-right_brace.ensures.reads.0 c.in_ok-right_brace.ensures.reads.1 c.in_ok-semicolon.semicolon c.in_ok-semicolon.ensures.reads.0;
      after = omega (arith, e.after, l.after);
      inside = omega (arith, c.in_ok-semicolon.ensures.reads.1);
      no_else = λ opens. absurd cc;
    }
