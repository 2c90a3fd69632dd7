use Rattle.std.proofs.Common.{arith}
use Rattle.std.proofs.lemmas.Result.{err_from_is_err_and}
use Rattle.pst_parse_body.specs.BodyFamilies.{view_statements}
use Rattle.pst_parse_body.proofs.BodyRules.{body_statements_fail, body_brace_fails, body_given}
use Rattle.pst_parse_body.proofs.body.read_body.Goals as goal

pub returns-in_err-statements : goal.returns-in_err-statements
returns-in_err-statements c =
    let p = err_from_is_err_and c.from_residual-in_err-statements.result c.from_residual-in_err-statements.ensures.1 in
    rw (p.1, p.2) (body_statements_fail c.args.tokens.now c.args.at c.args.depth c.in_ok-exec.exec c.in_ok-exec.ensures.reads.0 c.in_ok-body.body c.in_ok-body.ensures.reads.0 c.in_ok-left_brace.left_brace c.in_ok-left_brace.ensures.reads.0 c.in_err-statements.field-0.0 c.in_err-statements.ensures)

pub returns-in_err-right_brace : goal.returns-in_err-right_brace
returns-in_err-right_brace c =
    let p = err_from_is_err_and c.from_residual-in_err-right_brace.result c.from_residual-in_err-right_brace.ensures.1 in
    let l = c.in_ok-statements.ensures in
    rw (p.1, p.2) (body_brace_fails c.args.tokens.now c.args.at c.args.depth c.in_ok-exec.exec c.in_ok-exec.ensures.reads.0 c.in_ok-body.body c.in_ok-body.ensures.reads.0 c.in_ok-left_brace.left_brace c.in_ok-left_brace.ensures.reads.0 (view_statements c.in_ok-statements.statements) c.in_ok-statements.after l.after l.inside l.settles c.in_err-right_brace.field-0.0 c.in_err-right_brace.ensures.reads)

pub returns : goal.returns
returns c =
    let l = c.in_ok-statements.ensures in
    record {
      settles = body_given c.args.tokens.now c.args.at c.args.depth c.in_ok-exec.exec c.in_ok-exec.ensures.reads.0 c.in_ok-body.body c.in_ok-body.ensures.reads.0 c.in_ok-left_brace.left_brace c.in_ok-left_brace.ensures.reads.0 (view_statements c.in_ok-statements.statements) c.in_ok-statements.after l.after l.inside l.settles c.in_ok-right_brace.right_brace c.in_ok-right_brace.ensures.reads.0;
      after = omega (arith, l.after);
      inside = c.in_ok-right_brace.ensures.reads.1;
    }
