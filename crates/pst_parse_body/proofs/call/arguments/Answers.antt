use Rattle.std.proofs.Common.{arith, rules}
use Rattle.std.specs.Prelude.{map}
use Rattle.std.proofs.lemmas.Result.{err_from_is_err_and}
use Rattle.pst_ast.specs.ExpressionView.{view_expr}
use Rattle.pst_ast.specs.SharedView.{view_next_expr}
use Rattle.pst_parse_body.proofs.CallRules.{first_fails, rest_fails, arguments_given}
use Rattle.pst_parse_body.proofs.call.arguments.Goals as goal

pub returns-in_err-first : goal.returns-in_err-first
returns-in_err-first c =
    let p = err_from_is_err_and c.from_residual.result c.from_residual.ensures.1 in
    rw (p.1, p.2) (first_fails c.args.tokens.now c.args.at c.args.depth (search rules) c.in_err-first.field-0.0 c.in_err-first.ensures)

pub returns-in_err-rest : goal.returns-in_err-rest
returns-in_err-rest c =
    let p = err_from_is_err_and c.from_residual-in_err-rest.result c.from_residual-in_err-rest.ensures.1 in
    let e = c.in_ok-first.ensures in
    rw (p.1, p.2) (rest_fails c.args.tokens.now c.args.at c.args.depth (search rules) (view_expr c.in_ok-first.first) c.in_ok-first.behind e.after e.settles c.in_err-rest.field-0.0 c.in_err-rest.ensures)

pub returns : goal.returns
returns c =
    let e = c.in_ok-first.ensures in
    let l = c.in_ok-rest.ensures in
    record {
      settles = arguments_given c.args.tokens.now c.args.at c.args.depth (search rules) (view_expr c.in_ok-first.first) c.in_ok-first.behind e.after e.settles (map view_next_expr c.in_ok-rest.rest.items) c.in_ok-rest.after l.after l.settles;
      after = omega (arith, e.after, l.after);
      inside = l.inside;
    }
