use Rattle.std.proofs.Common.{arith}
use Rattle.std.proofs.lemmas.Result.{err_from_is_err_and}
use Rattle.pst_parse_body.specs.BodyFamilies.{view_arguments_option}
use Rattle.pst_parse_body.proofs.CallRules.{call_arguments_fail, call_close_fails, call_given}
use Rattle.pst_parse_body.proofs.call.call.Goals as goal

pub returns-in_err-arguments : goal.returns-in_err-arguments
returns-in_err-arguments c =
    let p = err_from_is_err_and c.from_residual-in_err-arguments.result c.from_residual-in_err-arguments.ensures.1 in
    rw (p.1, p.2) (call_arguments_fail c.args.tokens.now c.args.at c.args.depth c.args.name c.in_ok-left_parenthesis.left_parenthesis c.in_ok-left_parenthesis.ensures.reads.0 c.in_err-arguments.field-0.0 c.in_err-arguments.ensures)

pub returns-in_err-right_parenthesis : goal.returns-in_err-right_parenthesis
returns-in_err-right_parenthesis c =
    let p = err_from_is_err_and c.from_residual-in_err-right_parenthesis.result c.from_residual-in_err-right_parenthesis.ensures.1 in
    let a = c.in_ok-arguments.ensures in
    rw (p.1, p.2) (call_close_fails c.args.tokens.now c.args.at c.args.depth c.args.name c.in_ok-left_parenthesis.left_parenthesis c.in_ok-left_parenthesis.ensures.reads.0 (view_arguments_option c.in_ok-arguments.arguments) c.in_ok-arguments.after a.after a.inside a.settles c.in_err-right_parenthesis.field-0.0 c.in_err-right_parenthesis.ensures.reads)

pub returns : goal.returns
returns c =
    let a = c.in_ok-arguments.ensures in
    record {
      settles = call_given c.args.tokens.now c.args.at c.args.depth c.args.name c.in_ok-left_parenthesis.left_parenthesis c.in_ok-left_parenthesis.ensures.reads.0 (view_arguments_option c.in_ok-arguments.arguments) c.in_ok-arguments.after a.after a.inside a.settles c.in_ok-right_parenthesis.right_parenthesis c.in_ok-right_parenthesis.ensures.reads.0;
      after = omega (arith, a.after);
      inside = c.in_ok-right_parenthesis.ensures.reads.1;
    }
