use Rattle.std.proofs.Common.{arith, ◌-◌}
use Rattle.std.proofs.lemmas.Result.{err_from_is_err_and}
use Rattle.pst_parse_step.proofs.ActivityPartRules.{next_end_comma_fails, next_end_end_fails, next_end_given}
use Rattle.pst_parse_step.proofs.parts.next_end.Goals as goal

pub returns-in_err-comma : goal.returns-in_err-comma
returns-in_err-comma c =
    let p = err_from_is_err_and c.from_residual.result c.from_residual.ensures.1 in
    rw (p.1, p.2) (next_end_comma_fails c.args.tokens.now c.args.at c.args.depth c.in_err-comma.field-0.0 c.requires.inside c.in_err-comma.ensures.reads)

pub returns-in_err-end : goal.returns-in_err-end
returns-in_err-end c =
    let p = err_from_is_err_and c.from_residual-in_err-end.result c.from_residual-in_err-end.ensures.1 in
    rw (p.1, p.2) (next_end_end_fails c.args.tokens.now c.args.at c.args.depth c.in_ok-comma.comma c.in_ok-comma.ensures.reads.0 c.in_ok-comma.ensures.reads.1 (omega (arith, c.in_ok-comma.ensures.reads.1)) c.in_err-end.field-0.0 c.in_err-end.ensures)

pub returns : goal.returns
returns c = record {
  settles = next_end_given c.args.tokens.now c.args.at c.args.depth c.in_ok-comma.comma c.in_ok-comma.ensures.reads.0 c.in_ok-comma.ensures.reads.1 c.in_ok-end.end c.in_ok-end.after c.in_ok-end.ensures.after c.in_ok-end.ensures.inside c.in_ok-end.ensures.settles;
  after = omega (arith, c.in_ok-end.ensures.after);
  inside = c.in_ok-end.ensures.inside;
}
