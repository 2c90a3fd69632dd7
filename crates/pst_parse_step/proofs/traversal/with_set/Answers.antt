use Rattle.std.proofs.Common.{arith, ◌-◌}
use Rattle.std.proofs.lemmas.Result.{err_from_is_err_and}
use Rattle.pst_ast.specs.ConstraintView.{view_constraint}
use Rattle.pst_parse_step.proofs.ActivityTraversalRules.{with_set_given, with_set_set_fails, with_set_with_fails}
use Rattle.pst_parse_step.proofs.traversal.with_set.Goals as goal

pub returns-in_err-with : goal.returns-in_err-with
returns-in_err-with c =
    let p = err_from_is_err_and c.from_residual.result c.from_residual.ensures.1 in
    rw (p.1, p.2) (with_set_with_fails c.args.tokens.now c.args.at c.args.depth c.in_err-with.field-0.0 c.requires.inside c.in_err-with.ensures.reads)

pub returns-in_err-set : goal.returns-in_err-set
returns-in_err-set c =
    let p = err_from_is_err_and c.from_residual-in_err-set.result c.from_residual-in_err-set.ensures.1 in
    rw (p.1, p.2) (with_set_set_fails c.args.tokens.now c.args.at c.args.depth c.in_ok-with.with c.in_ok-with.ensures.reads.0 c.in_ok-with.ensures.reads.1 (omega (arith, c.in_ok-with.ensures.reads.1)) c.in_err-set.field-0.0 c.in_err-set.ensures)

pub returns : goal.returns
returns c = record {
  settles = with_set_given c.args.tokens.now c.args.at c.args.depth c.in_ok-with.with c.in_ok-with.ensures.reads.0 c.in_ok-with.ensures.reads.1 (view_constraint c.in_ok-set.set) c.in_ok-set.after c.in_ok-set.ensures.after c.in_ok-set.ensures.inside c.in_ok-set.ensures.settles;
  after = omega (arith, c.in_ok-set.ensures.after);
  inside = c.in_ok-set.ensures.inside;
  no_else = c.in_ok-set.ensures.no_else;
}
