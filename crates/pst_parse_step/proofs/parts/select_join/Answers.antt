use Rattle.std.proofs.Common.{arith, ◌-◌}
use Rattle.std.proofs.lemmas.Result.{err_from_is_err_and}
use Rattle.pst_ast.specs.ExpressionView.{view_expr}
use Rattle.pst_parse_step.proofs.ActivityPartRules.{select_join_count_fails, select_join_given, select_join_join_select_fails, select_join_left_parenthesis_fails, select_join_right_parenthesis_fails}
use Rattle.pst_parse_step.proofs.parts.select_join.Goals as goal

pub returns-in_err-join_select : goal.returns-in_err-join_select
returns-in_err-join_select c =
    let p = err_from_is_err_and c.from_residual.result c.from_residual.ensures.1 in
    rw (p.1, p.2) (select_join_join_select_fails c.args.tokens.now c.args.at c.args.depth c.in_err-join_select.field-0.0 c.requires.inside c.in_err-join_select.ensures.reads)

pub returns-in_err-left_parenthesis : goal.returns-in_err-left_parenthesis
returns-in_err-left_parenthesis c =
    let p = err_from_is_err_and c.from_residual-in_err-left_parenthesis.result c.from_residual-in_err-left_parenthesis.ensures.1 in
    rw (p.1, p.2) (select_join_left_parenthesis_fails c.args.tokens.now c.args.at c.args.depth c.in_ok-join_select.join_select c.in_ok-join_select.ensures.reads.0 c.in_ok-join_select.ensures.reads.1 c.in_err-left_parenthesis.field-0.0 (omega (arith, c.in_ok-join_select.ensures.reads.1)) c.in_err-left_parenthesis.ensures.reads)

pub returns-in_err-count : goal.returns-in_err-count
returns-in_err-count c =
    let p = err_from_is_err_and c.from_residual-in_err-count.result c.from_residual-in_err-count.ensures.1 in
    rw (p.1, p.2) (select_join_count_fails c.args.tokens.now c.args.at c.args.depth c.in_ok-join_select.join_select c.in_ok-join_select.ensures.reads.0 c.in_ok-join_select.ensures.reads.1 c.in_ok-left_parenthesis.left_parenthesis c.in_ok-left_parenthesis.ensures.reads.0 c.in_ok-left_parenthesis.ensures.reads.1 (omega (arith, c.in_ok-left_parenthesis.ensures.reads.1)) c.in_err-count.field-0.0 c.in_err-count.ensures)

pub returns-in_err-right_parenthesis : goal.returns-in_err-right_parenthesis
returns-in_err-right_parenthesis c =
    let p = err_from_is_err_and c.from_residual-in_err-right_parenthesis.result c.from_residual-in_err-right_parenthesis.ensures.1 in
    rw (p.1, p.2) (select_join_right_parenthesis_fails c.args.tokens.now c.args.at c.args.depth c.in_ok-join_select.join_select c.in_ok-join_select.ensures.reads.0 c.in_ok-join_select.ensures.reads.1 c.in_ok-left_parenthesis.left_parenthesis c.in_ok-left_parenthesis.ensures.reads.0 c.in_ok-left_parenthesis.ensures.reads.1 (view_expr c.in_ok-count.count) c.in_ok-count.after c.in_ok-count.ensures.after c.in_ok-count.ensures.inside c.in_ok-count.ensures.settles c.in_err-right_parenthesis.field-0.0 (omega (arith, c.in_ok-count.ensures.inside)) c.in_err-right_parenthesis.ensures.reads)

pub returns : goal.returns
returns c = record {
  settles = select_join_given c.args.tokens.now c.args.at c.args.depth c.in_ok-join_select.join_select c.in_ok-join_select.ensures.reads.0 c.in_ok-join_select.ensures.reads.1 c.in_ok-left_parenthesis.left_parenthesis c.in_ok-left_parenthesis.ensures.reads.0 c.in_ok-left_parenthesis.ensures.reads.1 (view_expr c.in_ok-count.count) c.in_ok-count.after c.in_ok-count.ensures.after c.in_ok-count.ensures.inside c.in_ok-count.ensures.settles c.in_ok-right_parenthesis.right_parenthesis c.in_ok-right_parenthesis.ensures.reads.0 c.in_ok-right_parenthesis.ensures.reads.1;
  after = omega (arith, c.in_ok-count.ensures.after);
  inside = c.in_ok-right_parenthesis.ensures.reads.1;
}
