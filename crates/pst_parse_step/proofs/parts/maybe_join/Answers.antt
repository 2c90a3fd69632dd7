use Rattle.std.proofs.Common.{arith, rules, ◌-◌}
use Rattle.std.proofs.lemmas.Result.{err_from_is_err_and}
use Rattle.pst_ast.specs.ActivityView.{view_join}
use Rattle.pst_reading.proofs.Optional.{option_absent, option_present, option_fails}
use Rattle.pst_parse_step.specs.ActivityParts.{begins_join}
use Rattle.pst_parse_step.specs.ActivityPartFamilies.{join_family}
use Rattle.pst_parse_step.proofs.parts.maybe_join.Goals as goal

pub returns-then-not-begins_join : goal.returns-then-not-begins_join
returns-then-not-begins_join c = record {
  settles = option_absent c.args.tokens.now c.args.at c.args.at begins_join (join_family c.args.depth) (search rules);
  after = omega arith;
  inside = c.requires.inside;
}

pub returns-in_err-join : goal.returns-in_err-join
returns-in_err-join c =
    let p = err_from_is_err_and c.from_residual.result c.from_residual.ensures.1 in
    rw (p.1, p.2) (option_fails c.args.tokens.now c.args.at c.args.at begins_join (join_family c.args.depth) (search rules) c.in_err-join.field-0.0 c.in_err-join.ensures)

pub returns : goal.returns
returns c = record {
  settles = option_present c.args.tokens.now c.args.at c.args.at begins_join (join_family c.args.depth) (search rules) (view_join c.in_ok-join.join) c.in_ok-join.after c.in_ok-join.ensures.settles;
  after = omega (arith, c.in_ok-join.ensures.after);
  inside = c.in_ok-join.ensures.inside;
}
