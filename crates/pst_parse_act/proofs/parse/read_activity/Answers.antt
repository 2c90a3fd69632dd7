use Rattle.std.proofs.Common.{arith, ◌≡◌}
use Rattle.std.proofs.lemmas.Result.{err_from_is_err_and}
use Rattle.pst_token.specs.declared.kind.Kind.TheVariants as kind
use Rattle.pst_ast.specs.Limits.{counted}
use Rattle.pst_reading.specs.Parser.{mark_by}
use Rattle.pst_parse_member.proofs.Kept.{token_fault, token_read}
use Rattle.pst_parse_statement.proofs.ActivityRules.{activity_brace_fails, activity_end_fails, activity_given, activity_statements_fail, activity_word_fails}
use Rattle.pst_parse_act.proofs.parse.read_activity.Goals as goal

pub returns-in_err-activity : goal.returns-in_err-activity
returns-in_err-activity c =
    let p = err_from_is_err_and c.from_residual.result c.from_residual.ensures.1 in
    rw (p.1, p.2) (activity_word_fails c.args.tokens.now c.args.at c.args.depth c.in_err-activity.field-0.0 c.requires.inside c.in_err-activity.ensures.reads)

pub returns-in_err-left_brace : goal.returns-in_err-left_brace
returns-in_err-left_brace c =
    let p = err_from_is_err_and c.from_residual-in_err-left_brace.result c.from_residual-in_err-left_brace.ensures.1 in
    rw (p.1, p.2) (activity_brace_fails c.args.tokens.now c.args.at c.args.depth c.in_ok-activity.activity c.in_ok-activity.ensures.reads c.in_err-left_brace.field-0.0 c.in_err-left_brace.ensures.reads)

pub returns-in_err-listed : goal.returns-in_err-listed
returns-in_err-listed c =
    let p = err_from_is_err_and c.from_residual-in_err-listed.result c.from_residual-in_err-listed.ensures.1 in
    rw (p.1, p.2) (activity_statements_fail c.args.tokens.now c.args.at c.args.depth c.in_ok-activity.activity c.in_ok-activity.ensures.reads c.in_ok-left_brace.left_brace c.in_ok-left_brace.ensures.reads c.in_err-listed.field-0.0 c.in_err-listed.ensures)

pub returns-in_err-statements : goal.returns-in_err-statements
returns-in_err-statements c =
    let p = err_from_is_err_and c.from_residual-in_err-statements.result c.from_residual-in_err-statements.ensures.1 in
    let closing = token_fault (mark_by kind.RightBrace (counted c.args.depth 0)) c.args.tokens.now c.in_ok-listed.after _ _ c.in_err-statements.ensures.err c.expect-closing.ensures.reads in
    rw (p.1, p.2) (activity_end_fails c.args.tokens.now c.args.at c.args.depth c.in_ok-activity.activity c.in_ok-activity.ensures.reads c.in_ok-left_brace.left_brace c.in_ok-left_brace.ensures.reads c.in_ok-listed.ensures c.in_err-statements.field-0.0 closing)

pub returns : goal.returns
returns c =
    let closing = token_read (mark_by kind.RightBrace (counted c.args.depth 0)) c.args.tokens.now c.in_ok-listed.after _ _ c.in_ok-statements.ensures.ok.1 c.expect-closing.ensures.reads in
    record {
      settles = rw c.in_ok-statements.ensures.ok.0 (activity_given c.args.tokens.now c.args.at c.args.depth c.in_ok-activity.activity c.in_ok-activity.ensures.reads c.in_ok-left_brace.left_brace c.in_ok-left_brace.ensures.reads c.in_ok-listed.ensures c.in_ok-statements.right_brace closing);
      after = omega (arith, c.in_ok-listed.ensures.after);
      inside = closing.1;
    }
