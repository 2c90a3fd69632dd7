use Rattle.std.proofs.Common.{arith, ◌-◌}
use Rattle.std.proofs.lemmas.Result.{err_from_is_err_and}
use Rattle.pst_parse_step.proofs.ActivityPartRules.{several_ends_first_fails, several_ends_given, several_ends_left_brace_fails, several_ends_rest_fails, several_ends_right_brace_fails}
use Rattle.pst_parse_step.proofs.parts.several_ends.Goals as goal

pub returns-in_err-left_brace : goal.returns-in_err-left_brace
returns-in_err-left_brace c =
    let p = err_from_is_err_and c.from_residual.result c.from_residual.ensures.1 in
    rw (p.1, p.2) (several_ends_left_brace_fails c.args.tokens.now c.args.at c.args.depth c.in_err-left_brace.field-0.0 c.requires.inside c.in_err-left_brace.ensures.reads)

pub returns-in_err-first : goal.returns-in_err-first
returns-in_err-first c =
    let p = err_from_is_err_and c.from_residual-in_err-first.result c.from_residual-in_err-first.ensures.1 in
    rw (p.1, p.2) (several_ends_first_fails c.args.tokens.now c.args.at c.args.depth c.in_ok-left_brace.left_brace c.in_ok-left_brace.ensures.reads.0 c.in_ok-left_brace.ensures.reads.1 (omega (arith, c.in_ok-left_brace.ensures.reads.1)) c.in_err-first.field-0.0 c.in_err-first.ensures)

pub returns-in_err-rest : goal.returns-in_err-rest
returns-in_err-rest c =
    let p = err_from_is_err_and c.from_residual-in_err-rest.result c.from_residual-in_err-rest.ensures.1 in
    rw (p.1, p.2) (several_ends_rest_fails c.args.tokens.now c.args.at c.args.depth c.in_ok-left_brace.left_brace c.in_ok-left_brace.ensures.reads.0 c.in_ok-left_brace.ensures.reads.1 c.in_ok-first.first c.in_ok-first.behind c.in_ok-first.ensures.after c.in_ok-first.ensures.inside c.in_ok-first.ensures.settles (omega (arith, c.in_ok-first.ensures.inside)) c.in_err-rest.field-0.0 c.in_err-rest.ensures)

pub returns-in_err-right_brace : goal.returns-in_err-right_brace
returns-in_err-right_brace c =
    let p = err_from_is_err_and c.from_residual-in_err-right_brace.result c.from_residual-in_err-right_brace.ensures.1 in
    rw (p.1, p.2) (several_ends_right_brace_fails c.args.tokens.now c.args.at c.args.depth c.in_ok-left_brace.left_brace c.in_ok-left_brace.ensures.reads.0 c.in_ok-left_brace.ensures.reads.1 c.in_ok-first.first c.in_ok-first.behind c.in_ok-first.ensures.after c.in_ok-first.ensures.inside c.in_ok-first.ensures.settles c.in_ok-rest.rest.items c.in_ok-rest.after c.in_ok-rest.ensures.after c.in_ok-rest.ensures.inside c.in_ok-rest.ensures.settles c.in_err-right_brace.field-0.0 (omega (arith, c.in_ok-rest.ensures.inside)) c.in_err-right_brace.ensures.reads)

pub returns : goal.returns
returns c = record {
  settles = several_ends_given c.args.tokens.now c.args.at c.args.depth c.in_ok-left_brace.left_brace c.in_ok-left_brace.ensures.reads.0 c.in_ok-left_brace.ensures.reads.1 c.in_ok-first.first c.in_ok-first.behind c.in_ok-first.ensures.after c.in_ok-first.ensures.inside c.in_ok-first.ensures.settles c.in_ok-rest.rest.items c.in_ok-rest.after c.in_ok-rest.ensures.after c.in_ok-rest.ensures.inside c.in_ok-rest.ensures.settles c.in_ok-right_brace.right_brace c.in_ok-right_brace.ensures.reads.0 c.in_ok-right_brace.ensures.reads.1;
  after = omega (arith, c.in_ok-first.ensures.after, c.in_ok-rest.ensures.after);
  inside = c.in_ok-right_brace.ensures.reads.1;
}
