use Rattle.std.proofs.Common.{arith, ◌-◌}
use Rattle.std.proofs.lemmas.Result.{err_from_is_err_and}
use Rattle.pst_ast.specs.ExpressionView.{view_ranges}
use Rattle.pst_parse_step.proofs.ActivityLabelRules.{ranges_label_given, ranges_label_left_bracket_fails, ranges_label_ranges_fails, ranges_label_right_bracket_fails}
use Rattle.pst_parse_step.proofs.labels.ranges_label.Goals as goal

pub returns-in_err-left_bracket : goal.returns-in_err-left_bracket
returns-in_err-left_bracket c =
    let p = err_from_is_err_and c.from_residual.result c.from_residual.ensures.1 in
    rw (p.1, p.2) (ranges_label_left_bracket_fails c.args.tokens.now c.args.at c.args.depth c.in_err-left_bracket.field-0.0 c.requires.inside c.in_err-left_bracket.ensures.reads)

pub returns-in_err-ranges : goal.returns-in_err-ranges
returns-in_err-ranges c =
    let p = err_from_is_err_and c.from_residual-in_err-ranges.result c.from_residual-in_err-ranges.ensures.1 in
    rw (p.1, p.2) (ranges_label_ranges_fails c.args.tokens.now c.args.at c.args.depth c.in_ok-left_bracket.left_bracket c.in_ok-left_bracket.ensures.reads.0 c.in_ok-left_bracket.ensures.reads.1 (omega (arith, c.in_ok-left_bracket.ensures.reads.1)) c.in_err-ranges.field-0.0 c.in_err-ranges.ensures)

pub returns-in_err-right_bracket : goal.returns-in_err-right_bracket
returns-in_err-right_bracket c =
    let p = err_from_is_err_and c.from_residual-in_err-right_bracket.result c.from_residual-in_err-right_bracket.ensures.1 in
    rw (p.1, p.2) (ranges_label_right_bracket_fails c.args.tokens.now c.args.at c.args.depth c.in_ok-left_bracket.left_bracket c.in_ok-left_bracket.ensures.reads.0 c.in_ok-left_bracket.ensures.reads.1 (view_ranges c.in_ok-ranges.ranges) c.in_ok-ranges.after c.in_ok-ranges.ensures.after c.in_ok-ranges.ensures.inside c.in_ok-ranges.ensures.settles c.in_err-right_bracket.field-0.0 (omega (arith, c.in_ok-ranges.ensures.inside)) c.in_err-right_bracket.ensures.reads)

pub returns : goal.returns
returns c = record {
  settles = ranges_label_given c.args.tokens.now c.args.at c.args.depth c.in_ok-left_bracket.left_bracket c.in_ok-left_bracket.ensures.reads.0 c.in_ok-left_bracket.ensures.reads.1 (view_ranges c.in_ok-ranges.ranges) c.in_ok-ranges.after c.in_ok-ranges.ensures.after c.in_ok-ranges.ensures.inside c.in_ok-ranges.ensures.settles c.in_ok-right_bracket.right_bracket c.in_ok-right_bracket.ensures.reads.0 c.in_ok-right_bracket.ensures.reads.1;
  after = omega (arith, c.in_ok-ranges.ensures.after);
  inside = c.in_ok-right_bracket.ensures.reads.1;
}
