use Rattle.std.proofs.Common.{arith, ◌-◌}
use Rattle.std.proofs.lemmas.Result.{err_from_is_err_and}
use Rattle.pst_ast.specs.SharedView.{view_names}
use Rattle.pst_parse_step.proofs.ActivityPartRules.{branch_join_given, branch_join_join_branch_fails, branch_join_left_parenthesis_fails, branch_join_names_fails, branch_join_right_parenthesis_fails}
use Rattle.pst_parse_step.proofs.parts.branch_join.Goals as goal

pub returns-in_err-join_branch : goal.returns-in_err-join_branch
returns-in_err-join_branch c =
    let p = err_from_is_err_and c.from_residual.result c.from_residual.ensures.1 in
    rw (p.1, p.2) (branch_join_join_branch_fails c.args.tokens.now c.args.at c.args.depth c.in_err-join_branch.field-0.0 c.requires.inside c.in_err-join_branch.ensures.reads)

pub returns-in_err-left_parenthesis : goal.returns-in_err-left_parenthesis
returns-in_err-left_parenthesis c =
    let p = err_from_is_err_and c.from_residual-in_err-left_parenthesis.result c.from_residual-in_err-left_parenthesis.ensures.1 in
    rw (p.1, p.2) (branch_join_left_parenthesis_fails c.args.tokens.now c.args.at c.args.depth c.in_ok-join_branch.join_branch c.in_ok-join_branch.ensures.reads.0 c.in_ok-join_branch.ensures.reads.1 c.in_err-left_parenthesis.field-0.0 (omega (arith, c.in_ok-join_branch.ensures.reads.1)) c.in_err-left_parenthesis.ensures.reads)

pub returns-in_err-names : goal.returns-in_err-names
returns-in_err-names c =
    let p = err_from_is_err_and c.from_residual-in_err-names.result c.from_residual-in_err-names.ensures.1 in
    rw (p.1, p.2) (branch_join_names_fails c.args.tokens.now c.args.at c.args.depth c.in_ok-join_branch.join_branch c.in_ok-join_branch.ensures.reads.0 c.in_ok-join_branch.ensures.reads.1 c.in_ok-left_parenthesis.left_parenthesis c.in_ok-left_parenthesis.ensures.reads.0 c.in_ok-left_parenthesis.ensures.reads.1 (omega (arith, c.in_ok-left_parenthesis.ensures.reads.1)) c.in_err-names.field-0.0 c.in_err-names.ensures)

pub returns-in_err-right_parenthesis : goal.returns-in_err-right_parenthesis
returns-in_err-right_parenthesis c =
    let p = err_from_is_err_and c.from_residual-in_err-right_parenthesis.result c.from_residual-in_err-right_parenthesis.ensures.1 in
    rw (p.1, p.2) (branch_join_right_parenthesis_fails c.args.tokens.now c.args.at c.args.depth c.in_ok-join_branch.join_branch c.in_ok-join_branch.ensures.reads.0 c.in_ok-join_branch.ensures.reads.1 c.in_ok-left_parenthesis.left_parenthesis c.in_ok-left_parenthesis.ensures.reads.0 c.in_ok-left_parenthesis.ensures.reads.1 (view_names c.in_ok-names.names) c.in_ok-names.after c.in_ok-names.ensures.after c.in_ok-names.ensures.inside c.in_ok-names.ensures.settles c.in_err-right_parenthesis.field-0.0 (omega (arith, c.in_ok-names.ensures.inside)) c.in_err-right_parenthesis.ensures.reads)

pub returns : goal.returns
returns c = record {
  settles = branch_join_given c.args.tokens.now c.args.at c.args.depth c.in_ok-join_branch.join_branch c.in_ok-join_branch.ensures.reads.0 c.in_ok-join_branch.ensures.reads.1 c.in_ok-left_parenthesis.left_parenthesis c.in_ok-left_parenthesis.ensures.reads.0 c.in_ok-left_parenthesis.ensures.reads.1 (view_names c.in_ok-names.names) c.in_ok-names.after c.in_ok-names.ensures.after c.in_ok-names.ensures.inside c.in_ok-names.ensures.settles c.in_ok-right_parenthesis.right_parenthesis c.in_ok-right_parenthesis.ensures.reads.0 c.in_ok-right_parenthesis.ensures.reads.1;
  after = omega (arith, c.in_ok-names.ensures.after);
  inside = c.in_ok-right_parenthesis.ensures.reads.1;
}
