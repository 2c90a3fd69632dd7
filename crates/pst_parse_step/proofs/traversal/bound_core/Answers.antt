use Rattle.std.proofs.Common.{arith, ◌-◌}
use Rattle.std.proofs.lemmas.Result.{err_from_is_err_and}
use Rattle.pst_ast.specs.ActivityView.{view_bind}
use Rattle.pst_parse_step.proofs.ActivityTraversalRules.{bound_core_bind_fails, bound_core_given}
use Rattle.pst_parse_step.proofs.traversal.bound_core.Goals as goal

pub returns-in_err-bind : goal.returns-in_err-bind
returns-in_err-bind c =
    let p = err_from_is_err_and c.from_residual.result c.from_residual.ensures.1 in
    rw (p.1, p.2) (bound_core_bind_fails c.args.tokens.now c.args.at c.args.depth c.requires.inside c.in_err-bind.field-0.0 c.in_err-bind.ensures)

pub returns : goal.returns
returns c = record {
  settles = bound_core_given c.args.tokens.now c.args.at c.args.depth (view_bind c.in_ok-bind.bind) c.in_ok-bind.after c.in_ok-bind.ensures.after c.in_ok-bind.ensures.inside c.in_ok-bind.ensures.settles;
  after = omega (arith, c.in_ok-bind.ensures.after);
  inside = c.in_ok-bind.ensures.inside;
  no_else = λ opens. absurd cc;
}
