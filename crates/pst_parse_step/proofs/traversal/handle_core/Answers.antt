use Rattle.std.proofs.Common.{arith, ◌-◌}
use Rattle.std.proofs.lemmas.Result.{err_from_is_err_and}
use Rattle.pst_ast.specs.ActivityView.{view_with}
use Rattle.pst_parse_step.proofs.ActivityTraversalRules.{handle_core_given, handle_core_name_fails, handle_core_with_fails}
use Rattle.pst_parse_step.proofs.traversal.handle_core.Goals as goal

pub returns-in_err-name : goal.returns-in_err-name
returns-in_err-name c =
    let p = err_from_is_err_and c.from_residual.result c.from_residual.ensures.1 in
    rw (p.1, p.2) (handle_core_name_fails c.args.tokens.now c.args.at c.args.depth c.in_err-name.field-0.0 c.requires.inside c.in_err-name.ensures.reads)

pub returns-in_err-with : goal.returns-in_err-with
returns-in_err-with c =
    let p = err_from_is_err_and c.from_residual-in_err-with.result c.from_residual-in_err-with.ensures.1 in
    rw (p.1, p.2) (handle_core_with_fails c.args.tokens.now c.args.at c.args.depth c.in_ok-name.name c.in_ok-name.ensures.reads.0 c.in_ok-name.ensures.reads.1 (omega (arith, c.in_ok-name.ensures.reads.1)) c.in_err-with.field-0.0 c.in_err-with.ensures)

pub returns : goal.returns
returns c = record {
  settles = handle_core_given c.args.tokens.now c.args.at c.args.depth c.in_ok-name.name c.in_ok-name.ensures.reads.0 c.in_ok-name.ensures.reads.1 (view_with c.in_ok-with.with) c.in_ok-with.after c.in_ok-with.ensures.after c.in_ok-with.ensures.inside c.in_ok-with.ensures.settles;
  after = omega (arith, c.in_ok-with.ensures.after);
  inside = c.in_ok-with.ensures.inside;
  no_else = c.in_ok-with.ensures.no_else;
}
