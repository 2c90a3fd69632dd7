use Rattle.std.proofs.Common.{arith, ◌-◌}
use Rattle.std.proofs.lemmas.Result.{err_from_is_err_and}
use Rattle.pst_ast.specs.ActivityView.{view_weight}
use Rattle.pst_parse_step.proofs.ActivityLabelRules.{weight_guard_colon_fails, weight_guard_given, weight_guard_weight_fails}
use Rattle.pst_parse_step.proofs.labels.weight_guard.Goals as goal

pub returns-in_err-weight : goal.returns-in_err-weight
returns-in_err-weight c =
    let p = err_from_is_err_and c.from_residual.result c.from_residual.ensures.1 in
    rw (p.1, p.2) (weight_guard_weight_fails c.args.tokens.now c.args.at c.args.depth c.requires.inside c.in_err-weight.field-0.0 c.in_err-weight.ensures)

pub returns-in_err-colon : goal.returns-in_err-colon
returns-in_err-colon c =
    let p = err_from_is_err_and c.from_residual-in_err-colon.result c.from_residual-in_err-colon.ensures.1 in
    rw (p.1, p.2) (weight_guard_colon_fails c.args.tokens.now c.args.at c.args.depth (view_weight c.in_ok-weight.weight) c.in_ok-weight.after c.in_ok-weight.ensures.after c.in_ok-weight.ensures.inside c.in_ok-weight.ensures.settles c.in_err-colon.field-0.0 (omega (arith, c.in_ok-weight.ensures.inside)) c.in_err-colon.ensures.reads)

pub returns : goal.returns
returns c = record {
  settles = weight_guard_given c.args.tokens.now c.args.at c.args.depth (view_weight c.in_ok-weight.weight) c.in_ok-weight.after c.in_ok-weight.ensures.after c.in_ok-weight.ensures.inside c.in_ok-weight.ensures.settles c.in_ok-colon.colon c.in_ok-colon.ensures.reads.0 c.in_ok-colon.ensures.reads.1;
  after = omega (arith, c.in_ok-weight.ensures.after);
  inside = c.in_ok-colon.ensures.reads.1;
}
