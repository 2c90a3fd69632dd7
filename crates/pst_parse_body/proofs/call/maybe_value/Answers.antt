use Rattle.std.proofs.Common.{arith, rules}
use Rattle.std.proofs.lemmas.Result.{err_from_is_err_and}
use Rattle.pst_ast.specs.BodyView.{view_value}
use Rattle.pst_parse_body.proofs.CallRules.{some_value_fails, some_value_given}
use Rattle.pst_parse_body.proofs.call.maybe_value.Goals as goal

pub returns-in_err-value : goal.returns-in_err-value
returns-in_err-value c =
    let p = err_from_is_err_and c.from_residual.result c.from_residual.ensures.1 in
    rw (p.1, p.2) (some_value_fails c.args.tokens.now c.args.at c.args.depth (search rules) c.in_err-value.field-0.0 c.in_err-value.ensures)

pub returns : goal.returns
returns c =
    let v = c.in_ok-value.ensures in
    record {
      settles = rw c.in_ok-boxed.ensures.ok (some_value_given c.args.tokens.now c.args.at c.args.depth (search rules) (view_value c.in_ok-value.value) c.in_ok-value.after v.after v.settles);
      after = omega (arith, v.after);
      inside = v.inside;
    }
