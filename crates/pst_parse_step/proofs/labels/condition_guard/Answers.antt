use Rattle.std.proofs.Common.{arith, ◌-◌}
use Rattle.std.specs.Option.{option_map}
use Rattle.std.proofs.lemmas.Result.{err_from_is_err_and}
use Rattle.pst_ast.specs.ExpressionView.{view_expr}
use Rattle.pst_ast.specs.ActivityView.{view_weight}
use Rattle.pst_parse_step.proofs.ActivityLabelRules.{condition_guard_colon_fails, condition_guard_condition_fails, condition_guard_given, condition_guard_left_parenthesis_fails, condition_guard_right_parenthesis_fails, condition_guard_weight_fails}
use Rattle.pst_parse_step.proofs.labels.condition_guard.Goals as goal

pub returns-in_err-left_parenthesis : goal.returns-in_err-left_parenthesis
returns-in_err-left_parenthesis c =
    let p = err_from_is_err_and c.from_residual.result c.from_residual.ensures.1 in
    rw (p.1, p.2) (condition_guard_left_parenthesis_fails c.args.tokens.now c.args.at c.args.depth c.in_err-left_parenthesis.field-0.0 c.requires.inside c.in_err-left_parenthesis.ensures.reads)

pub returns-in_err-condition : goal.returns-in_err-condition
returns-in_err-condition c =
    let p = err_from_is_err_and c.from_residual-in_err-condition.result c.from_residual-in_err-condition.ensures.1 in
    rw (p.1, p.2) (condition_guard_condition_fails c.args.tokens.now c.args.at c.args.depth c.in_ok-left_parenthesis.left_parenthesis c.in_ok-left_parenthesis.ensures.reads.0 c.in_ok-left_parenthesis.ensures.reads.1 (omega (arith, c.in_ok-left_parenthesis.ensures.reads.1)) c.in_err-condition.field-0.0 c.in_err-condition.ensures)

pub returns-in_err-right_parenthesis : goal.returns-in_err-right_parenthesis
returns-in_err-right_parenthesis c =
    let p = err_from_is_err_and c.from_residual-in_err-right_parenthesis.result c.from_residual-in_err-right_parenthesis.ensures.1 in
    rw (p.1, p.2) (condition_guard_right_parenthesis_fails c.args.tokens.now c.args.at c.args.depth c.in_ok-left_parenthesis.left_parenthesis c.in_ok-left_parenthesis.ensures.reads.0 c.in_ok-left_parenthesis.ensures.reads.1 (view_expr c.in_ok-condition.condition) c.in_ok-condition.behind c.in_ok-condition.ensures.after c.in_ok-condition.ensures.inside c.in_ok-condition.ensures.settles c.in_err-right_parenthesis.field-0.0 (omega (arith, c.in_ok-condition.ensures.inside)) c.in_err-right_parenthesis.ensures.reads)

pub returns-in_err-weight : goal.returns-in_err-weight
returns-in_err-weight c =
    let p = err_from_is_err_and c.from_residual-in_err-weight.result c.from_residual-in_err-weight.ensures.1 in
    rw (p.1, p.2) (condition_guard_weight_fails c.args.tokens.now c.args.at c.args.depth c.in_ok-left_parenthesis.left_parenthesis c.in_ok-left_parenthesis.ensures.reads.0 c.in_ok-left_parenthesis.ensures.reads.1 (view_expr c.in_ok-condition.condition) c.in_ok-condition.behind c.in_ok-condition.ensures.after c.in_ok-condition.ensures.inside c.in_ok-condition.ensures.settles c.in_ok-right_parenthesis.right_parenthesis c.in_ok-right_parenthesis.ensures.reads.0 c.in_ok-right_parenthesis.ensures.reads.1 (omega (arith, c.in_ok-right_parenthesis.ensures.reads.1)) c.in_err-weight.field-0.0 c.in_err-weight.ensures)

pub returns-in_err-colon : goal.returns-in_err-colon
returns-in_err-colon c =
    let p = err_from_is_err_and c.from_residual-in_err-colon.result c.from_residual-in_err-colon.ensures.1 in
    rw (p.1, p.2) (condition_guard_colon_fails c.args.tokens.now c.args.at c.args.depth c.in_ok-left_parenthesis.left_parenthesis c.in_ok-left_parenthesis.ensures.reads.0 c.in_ok-left_parenthesis.ensures.reads.1 (view_expr c.in_ok-condition.condition) c.in_ok-condition.behind c.in_ok-condition.ensures.after c.in_ok-condition.ensures.inside c.in_ok-condition.ensures.settles c.in_ok-right_parenthesis.right_parenthesis c.in_ok-right_parenthesis.ensures.reads.0 c.in_ok-right_parenthesis.ensures.reads.1 (option_map view_weight c.in_ok-weight.weight) c.in_ok-weight.after c.in_ok-weight.ensures.after c.in_ok-weight.ensures.inside c.in_ok-weight.ensures.settles c.in_err-colon.field-0.0 (omega (arith, c.in_ok-weight.ensures.inside)) c.in_err-colon.ensures.reads)

pub returns : goal.returns
returns c = record {
  settles = condition_guard_given c.args.tokens.now c.args.at c.args.depth c.in_ok-left_parenthesis.left_parenthesis c.in_ok-left_parenthesis.ensures.reads.0 c.in_ok-left_parenthesis.ensures.reads.1 (view_expr c.in_ok-condition.condition) c.in_ok-condition.behind c.in_ok-condition.ensures.after c.in_ok-condition.ensures.inside c.in_ok-condition.ensures.settles c.in_ok-right_parenthesis.right_parenthesis c.in_ok-right_parenthesis.ensures.reads.0 c.in_ok-right_parenthesis.ensures.reads.1 (option_map view_weight c.in_ok-weight.weight) c.in_ok-weight.after c.in_ok-weight.ensures.after c.in_ok-weight.ensures.inside c.in_ok-weight.ensures.settles c.in_ok-colon.colon c.in_ok-colon.ensures.reads.0 c.in_ok-colon.ensures.reads.1;
  after = omega (arith, c.in_ok-condition.ensures.after, c.in_ok-weight.ensures.after);
  inside = c.in_ok-colon.ensures.reads.1;
}
