use Rattle.std.proofs.Common.{arith, rules, ◌-◌}
use Rattle.std.proofs.lemmas.Result.{err_from_is_err_and}
use Rattle.pst_ast.specs.ActivityView.{view_guard}
use Rattle.pst_reading.proofs.Optional.{option_absent, option_present, option_fails}
use Rattle.pst_parse_step.specs.ActivityParts.{begins_guard}
use Rattle.pst_parse_step.specs.ActivityPartFamilies.{guard_family}
use Rattle.pst_parse_step.proofs.labels.maybe_guard.Goals as goal

pub returns-then-not-begins_guard : goal.returns-then-not-begins_guard
returns-then-not-begins_guard c = record {
  settles = option_absent c.args.tokens.now c.args.at c.args.at begins_guard (guard_family c.args.depth) (search rules);
  after = omega arith;
  inside = c.requires.inside;
}

pub returns-in_err-guard : goal.returns-in_err-guard
returns-in_err-guard c =
    let p = err_from_is_err_and c.from_residual.result c.from_residual.ensures.1 in
    rw (p.1, p.2) (option_fails c.args.tokens.now c.args.at c.args.at begins_guard (guard_family c.args.depth) (search rules) c.in_err-guard.field-0.0 c.in_err-guard.ensures)

pub returns : goal.returns
returns c = record {
  settles = option_present c.args.tokens.now c.args.at c.args.at begins_guard (guard_family c.args.depth) (search rules) (view_guard c.in_ok-guard.guard) c.in_ok-guard.after c.in_ok-guard.ensures.settles;
  after = omega (arith, c.in_ok-guard.ensures.after);
  inside = c.in_ok-guard.ensures.inside;
}
