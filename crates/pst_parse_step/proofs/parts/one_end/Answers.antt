use Rattle.std.proofs.Common.{arith, ◌-◌}
use Rattle.std.proofs.lemmas.Result.{err_from_is_err_and}
use Rattle.pst_parse_step.proofs.ActivityPartRules.{one_end_end_fails, one_end_given}
use Rattle.pst_parse_step.proofs.parts.one_end.Goals as goal

pub returns-in_err-end : goal.returns-in_err-end
returns-in_err-end c =
    let p = err_from_is_err_and c.from_residual.result c.from_residual.ensures.1 in
    rw (p.1, p.2) (one_end_end_fails c.args.tokens.now c.args.at c.args.depth c.requires.inside c.in_err-end.field-0.0 c.in_err-end.ensures)

pub returns : goal.returns
returns c = record {
  settles = one_end_given c.args.tokens.now c.args.at c.args.depth c.in_ok-end.end c.in_ok-end.after c.in_ok-end.ensures.after c.in_ok-end.ensures.inside c.in_ok-end.ensures.settles;
  after = omega (arith, c.in_ok-end.ensures.after);
  inside = c.in_ok-end.ensures.inside;
}
