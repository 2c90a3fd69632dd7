use Rattle.std.proofs.Common.{arith, ◌≡◌, ◌++◌, OnOk, List, ap, map, sym, subst, ◌∙◌}
use Rattle.std.proofs.lemmas.Grind.{common_steps}
use Rattle.pst_ast.specs.declared.body.BodyStatement.{BodyStatement}
use Rattle.pst_ast.specs.BodyView.{view_body_statement}
use Rattle.pst_ast.specs.ExpressionView.{view_expr}
use Rattle.pst_constraints.specs.Turned.{without_turn}
use Rattle.pst_elab_rules.specs.Bodies.{statement_row}
use Rattle.pst_model.specs.BodyTree.{BodyStepTree, If, NoBody, Repeat, body_of}
use Rattle.pst_model.specs.ConstraintTree.{view_constraint}
use Rattle.pst_model.specs.ModelView.{view_body_step}
use Rattle.pst_path_readings.specs.Set.{view_setting}
use Rattle.pst_sources.specs.Shown.{sources_of}
use Rattle.pst_terms.specs.Readings.{Setting, expression_of}
use Rattle.pst_body_parts.specs.Listed.{row_of, without_inner}
use Rattle.pst_body_parts.proofs.Rows.{block_is, row_again, steps_more, without_more}
use Rattle.pst_body_steps.proofs.statements.+statements.Goals as goal

pub add_statement-returns-in-Block-clause-found : goal.add_statement-returns-in-Block-clause-found
add_statement-returns-in-Block-clause-found t c =
    let s = sources_of c.args.numbered.now in
    let setting = view_setting c.args.setting.now in
    subst (λ (xs : List BodyStepTree). OnOk c.add_statements.result (map view_body_step c.add_statements.new.found.items ≡ map view_body_step c.args.found.now.items ++ xs))
    (sym (ap (λ (k : BodyStatement). body_of (statement_row s setting c.args.level (view_body_statement k))) c.in-Block.is ∙ block_is s setting c.args.level c.in-Block.left_brace c.in-Block.statements c.in-Block.right_brace))
    (grind (arith, common_steps))

pub part_steps-returns-clause-steps : goal.part_steps-returns-clause-steps
part_steps-returns-clause-steps t c =
    let row = statement_row (sources_of c.args.numbered.now) (view_setting c.args.setting.now) c.args.level (view_body_statement c.args.statement.now) in
    let found : map view_body_step c.add_statement.new.found.items ≡ body_of row = grind (arith, common_steps) in
    ap row_of found ∙ row_again row

pub if_step-returns-clause-step : goal.if_step-returns-clause-step
if_step-returns-clause-step t c =
    let holds : view_constraint c.in_ok-holds.holds ≡ expression_of (sources_of c.args.numbered.now) (view_setting c.args.setting.now) (view_expr c.args.condition.now) = grind (arith, common_steps) in
    let none : row_of (map view_body_step c.new-others.result.items) ≡ NoBody = grind (arith, common_steps) in
    c.if_of.ensures ∙ (λ i. If (holds i) (c.in_ok-steps.ensures.steps i) (none i))

pub if_else_step-returns-clause-step : goal.if_else_step-returns-clause-step
if_else_step-returns-clause-step t c =
    let s = sources_of c.args.numbered.now in
    let holds : view_constraint c.in_ok-holds.holds ≡ expression_of s (view_setting c.args.setting.now) (view_expr c.args.condition.now) = grind (arith, common_steps) in
    let others = c.in_ok-others.ensures.steps ∙ ap (λ (st : Setting). statement_row s st c.args.level (view_body_statement c.args.other.now)) c.in_ok-steps.ensures.kept in
    c.if_of.ensures ∙ (λ i. If (holds i) (c.in_ok-steps.ensures.steps i) (others i))

pub repeat_step-returns-clause-step : goal.repeat_step-returns-clause-step
repeat_step-returns-clause-step t c =
    let times : view_constraint c.in_ok-times.times ≡ expression_of (sources_of c.args.numbered.now) (view_setting c.args.setting.now) (view_expr c.args.count.now) = grind (arith, common_steps) in
    c.repeat_of.ensures ∙ (λ i. Repeat (times i) (c.in_ok-steps.ensures.steps i))

pub indexed_turns-returns-clause-steps : goal.indexed_turns-returns-clause-steps
indexed_turns-returns-clause-steps t c =
    c.in_ok-steps.ensures.steps ∙ ap (λ (st : Setting). statement_row (sources_of c.args.numbered.now) st c.args.inner (view_body_statement c.args.statement.now)) c.in_ok-push_turn.ensures

pub indexed_turns-returns-clause-kept : goal.indexed_turns-returns-clause-kept
indexed_turns-returns-clause-kept t c = c.pop_turn.ensures ∙ ap without_turn (c.in_ok-steps.ensures.kept ∙ c.in_ok-push_turn.ensures)

pub add_statements-loop-statement-preserved : goal.add_statements-loop-statement-preserved
add_statements-loop-statement-preserved t c =
    let locals = c.loop-statement.locals in
    let kept = c.in_ok-add_statement.ensures.kept in
    record {
      few = omega (arith, c.in_ok-entered.ensures.few);
      kept = without_more locals c.in_ok-entered.entered (view_setting c.enter_behind.new.setting) (view_setting c.add_statement.new.setting) (view_setting c.args.setting.now)
          c.in_ok-entered.ensures.left (ap (without_inner locals) kept ∙ c.loop-statement.invariant.kept);
      found = steps_more (sources_of c.args.numbered.now) c.args.level (view_setting c.loop-statement.setting) (view_setting c.add_statement.new.setting) (view_setting c.enter_behind.new.setting)
          (map view_body_step c.loop-statement.found.items) (map view_body_step c.add_statement.new.found.items) _ c.args.statements.now c.loop-statement.statement-index c.statement-item.result
          c.loop-statement-test.true c.statement-item.is kept c.in_ok-entered.ensures.entered c.in_ok-add_statement.ensures.found c.loop-statement.invariant.found;
    }
