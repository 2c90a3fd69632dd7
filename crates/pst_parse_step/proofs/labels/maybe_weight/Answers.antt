use Rattle.std.proofs.Common.{arith, rules, ◌-◌}
use Rattle.std.proofs.lemmas.Result.{err_from_is_err_and}
use Rattle.pst_token.specs.declared.kind.Kind.TheVariants as kind
use Rattle.pst_ast.specs.ActivityView.{view_weight}
use Rattle.pst_reading.proofs.Optional.{option_absent, option_present, option_fails}
use Rattle.pst_parse_expr.specs.Constraints.{is_at}
use Rattle.pst_parse_step.specs.ActivityPartFamilies.{weight_family}
use Rattle.pst_parse_step.proofs.labels.maybe_weight.Goals as goal

pub returns-then-not-is : goal.returns-then-not-is
returns-then-not-is c = record {
  settles = option_absent c.args.tokens.now c.args.at c.args.at (is_at kind.LeftBracket) (weight_family c.args.depth) (search rules);
  after = omega arith;
  inside = c.requires.inside;
}

pub returns-in_err-weight : goal.returns-in_err-weight
returns-in_err-weight c =
    let p = err_from_is_err_and c.from_residual.result c.from_residual.ensures.1 in
    rw (p.1, p.2) (option_fails c.args.tokens.now c.args.at c.args.at (is_at kind.LeftBracket) (weight_family c.args.depth) (search rules) c.in_err-weight.field-0.0 c.in_err-weight.ensures)

pub returns : goal.returns
returns c = record {
  settles = option_present c.args.tokens.now c.args.at c.args.at (is_at kind.LeftBracket) (weight_family c.args.depth) (search rules) (view_weight c.in_ok-weight.weight) c.in_ok-weight.after c.in_ok-weight.ensures.settles;
  after = omega (arith, c.in_ok-weight.ensures.after);
  inside = c.in_ok-weight.ensures.inside;
}
