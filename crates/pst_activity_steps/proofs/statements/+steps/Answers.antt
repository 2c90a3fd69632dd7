use Rattle.std.proofs.Common.{arith, ◌≡◌, ◌++◌, ◌∷◌, [], refl, ap, map, sym, ◌∙◌}
use Rattle.std.proofs.lemmas.Grind.{common_steps}
use Rattle.std.specs.Prelude.{Some}
use Rattle.std.specs.Option.{option_map}
use Rattle.std.specs.List.{filter_map}
use Rattle.pst_ast.specs.declared.activity.CoreNode.{CoreNode}
use Rattle.pst_ast.specs.ActivityView.{view_arm as view_arm_node, view_arm_label, view_branch as view_branch_node, view_core, view_guard, view_join, view_statement}
use Rattle.pst_ast.specs.ExpressionView.{view_expr}
use Rattle.pst_elab_rules.specs.Steps.{branch_step, core_step, guard_of, one_step, row_steps, statement_step, together_step, weight_of}
use Rattle.pst_model.specs.ActivityTree as model
use Rattle.pst_model.specs.ConstraintTree.{view_constraint}
use Rattle.pst_model.specs.ModelView.{view_branch, view_step}
use Rattle.pst_path_readings.specs.Set.{view_setting}
use Rattle.pst_sources.specs.Shown.{Shown, sources_of}
use Rattle.pst_terms.specs.Readings.{Setting, expression_of}
use Rattle.pst_walk_parts.specs.Shown.{view_statements}
use Rattle.pst_step_forms.specs.Listed.{branch_row, step_row, with_arm, with_arms, with_label}
use Rattle.pst_step_forms.specs.Shown.{view_arms}
use Rattle.pst_activity_steps.proofs.Blocks.{rows_are, sequence_step_is, together_step_is, select_found, match_found, steps_more, branches_more, arms_more}
use Rattle.pst_activity_steps.proofs.statements.+steps.Goals as goal

pub core_step-returns-in_ok-steps-in-Sequence-clause-step : goal.core_step-returns-in_ok-steps-in-Sequence-clause-step
core_step-returns-in_ok-steps-in-Sequence-clause-step t c =
    let s = sources_of c.args.numbered.now in
    let setting = view_setting c.args.setting.now in
    let e = ap (λ (k : CoreNode). core_step s setting c.args.level (view_core k)) c.in-Sequence.is ∙ sequence_step_is s setting c.args.level c.in-Sequence.sequence c.in-Sequence.left_brace c.in-Sequence.statements c.in-Sequence.right_brace in
    let statements = map view_statement c.in-Sequence.statements.items in
    let found : map view_step c.in_ok-steps-in-Sequence.steps.items ≡ filter_map (statement_step s setting c.args.level) statements = grind (arith, common_steps) in
    let made : view_step c.sequence.result ≡ model.Sequence (step_row (map view_step c.in_ok-steps-in-Sequence.steps.items)) = grind (arith, common_steps) in
    let rows : step_row (map view_step c.in_ok-steps-in-Sequence.steps.items) ≡ row_steps s setting c.args.level (view_statements c.in-Sequence.statements.items) = ap step_row found ∙ sym (rows_are s setting c.args.level statements) in
    ap (λ (x : model.StepTree). Some x) (made ∙ ap model.Sequence rows) ∙ sym e

pub core_step-returns-in_ok-step-in-Together-clause-step : goal.core_step-returns-in_ok-step-in-Together-clause-step
core_step-returns-in_ok-step-in-Together-clause-step t c =
    let s = sources_of c.args.numbered.now in
    let setting = view_setting c.args.setting.now in
    let word = c.in-Together.word in
    let join = option_map view_join c.in-Together.join in
    let statements = view_statements c.in-Together.statements.items in
    let e = ap (λ (k : CoreNode). core_step s setting c.args.level (view_core k)) c.in-Together.is
    ∙ together_step_is s setting c.args.level word c.in-Together.place c.in-Together.join c.in-Together.left_brace c.in-Together.statements c.in-Together.right_brace in
    let found : map view_step c.in_ok-steps-in-Together.steps.items ≡ filter_map (statement_step s setting c.args.level) (map view_statement c.in-Together.statements.items) = grind (arith, common_steps) in
    let steps : step_row (map view_step c.in_ok-steps-in-Together.steps.items) ≡ row_steps s setting c.args.level statements = ap step_row found ∙ sym (rows_are s setting c.args.level (map view_statement c.in-Together.statements.items)) in
    let step : view_step c.in_ok-step-in-Together.step ≡ together_step s word join statements (step_row (map view_step c.in_ok-steps-in-Together.steps.items)) = grind (arith, common_steps) in
    ap (λ (x : model.StepTree). Some x) (step ∙ ap (together_step s word join statements) steps) ∙ sym e

pub core_step-returns-in_ok-add_branches-in-Select-clause-step : goal.core_step-returns-in_ok-add_branches-in-Select-clause-step
core_step-returns-in_ok-add_branches-in-Select-clause-step t c =
    let s = sources_of c.args.numbered.now in
    let setting = view_setting c.args.setting.now in
    let level = c.args.level in
    let within = view_setting c.add_branch.new.setting in
    let one = map view_branch c.add_branch.new.found.items in
    let all = map view_branch c.add_branches.new.found.items in
    let kept : within ≡ setting = grind (arith, common_steps) in
    let ones : one ≡ [] ++ branch_step s setting level (view_branch_node c.in-Select.first.value) ∷ [] = grind (arith, common_steps) in
    let alls : all ≡ one ++ map (branch_step s within level) (map view_branch_node c.in-Select.rest.items) = grind (arith, common_steps) in
    let made : view_step c.select.result ≡ model.Select (branch_row all) = grind (arith, common_steps) in
    ap (λ (x : model.StepTree). Some x) made
    ∙ select_found s setting level c.in-Select.select c.in-Select.left_brace c.in-Select.first c.in-Select.rest c.in-Select.right_brace within [] one all kept refl ones alls
    ∙ sym (ap (λ (k : CoreNode). core_step s setting level (view_core k)) c.in-Select.is)

pub core_step-returns-in_ok-add_arms-in-Match-clause-step : goal.core_step-returns-in_ok-add_arms-in-Match-clause-step
core_step-returns-in_ok-add_arms-in-Match-clause-step t c =
    let s = sources_of c.args.numbered.now in
    let setting = view_setting c.args.setting.now in
    let level = c.args.level in
    let within = view_setting c.add_arm.new.setting in
    let none = view_arms c.no_arms-arms.result in
    let one = view_arms c.add_arm.new.found in
    let all = view_arms c.add_arms.new.found in
    let value = view_constraint c.in_ok-value-in-Match.value in
    let values : value ≡ expression_of s setting (view_expr c.in-Match.expr) = grind (arith, common_steps) in
    let kept : within ≡ setting = grind (arith, common_steps) in
    let ones : one ≡ with_arm s setting level none (view_arm_node c.in-Match.first.value) = grind (arith, common_steps) in
    let alls : all ≡ with_arms s within level one (map view_arm_node c.in-Match.rest.items) = grind (arith, common_steps) in
    ap (λ (x : model.StepTree). Some x) c.match_of.ensures
    ∙ match_found s setting level c.in-Match.match_ c.in-Match.left_parenthesis c.in-Match.expr c.in-Match.right_parenthesis c.in-Match.left_brace c.in-Match.first c.in-Match.rest c.in-Match.right_brace value within none one all values kept
    c.no_arms-arms.ensures ones alls
    ∙ sym (ap (λ (k : CoreNode). core_step s setting level (view_core k)) c.in-Match.is)

pub if_step-returns-clause-step : goal.if_step-returns-clause-step
if_step-returns-clause-step t c =
    let holds : view_constraint c.in_ok-holds.holds ≡ expression_of (sources_of c.args.numbered.now) (view_setting c.args.setting.now) (view_expr c.args.condition.now) = grind (arith, common_steps) in
    c.if_of.ensures ∙ (λ i. model.If (holds i) (c.in_ok-step.ensures.step i) model.NoStep)

pub if_else_step-returns-clause-step : goal.if_else_step-returns-clause-step
if_else_step-returns-clause-step t c =
    let s = sources_of c.args.numbered.now in
    let holds : view_constraint c.in_ok-holds.holds ≡ expression_of s (view_setting c.args.setting.now) (view_expr c.args.condition.now) = grind (arith, common_steps) in
    let otherwise = c.in_ok-otherwise.ensures.step ∙ ap (λ (st : Setting). one_step (statement_step s st c.args.level (view_statement c.args.other.now))) c.in_ok-step.ensures.kept in
    c.if_of.ensures ∙ (λ i. model.If (holds i) (c.in_ok-step.ensures.step i) (model.SomeStep (otherwise i)))

pub repeat_step-returns-clause-step : goal.repeat_step-returns-clause-step
repeat_step-returns-clause-step t c =
    let times : view_constraint c.in_ok-times.times ≡ expression_of (sources_of c.args.numbered.now) (view_setting c.args.setting.now) (view_expr c.args.count.now) = grind (arith, common_steps) in
    c.repeat_of.ensures ∙ (λ i. model.Repeat (times i) (c.in_ok-step.ensures.step i))

pub block-loop-statement-preserved : goal.block-loop-statement-preserved
block-loop-statement-preserved t c =
    let setting = view_setting c.args.setting.now in
    record {
      kept = c.in_ok-step.ensures.kept ∙ c.loop-statement.invariant.kept;
      found = steps_more (sources_of c.args.numbered.now) setting c.args.level (view_setting c.loop-statement.setting) (map view_step c.loop-statement.steps.items) (map view_step c.push_step.new.found.items) _
          (option_map view_step c.in_ok-step.step) c.args.statements.now c.loop-statement.statement-index c.statement-item.result c.loop-statement-test.true c.statement-item.is c.loop-statement.invariant.kept
          c.in_ok-step.ensures.step c.in_ok-push_step.ensures c.loop-statement.invariant.found;
    }

pub add_branch-returns-clause-found : goal.add_branch-returns-clause-found
add_branch-returns-clause-found t c =
    let s = sources_of c.args.numbered.now in
    let old = map view_branch c.args.found.now.items in
    let guard = option_map view_guard c.args.branch.now.guard in
    let step = view_step c.in_ok-step.step.value in
    c.in_ok-push_branch.ensures
    ∙ ap (λ (x : Shown). old ++ model.MakeBranch (guard_of (sources_of x) (view_setting c.one_step.new.setting) guard) (weight_of (sources_of x) guard) step ∷ []) c.sources.ensures
    ∙ ap (λ (st : Setting). old ++ model.MakeBranch (guard_of s st guard) (weight_of s guard) step ∷ []) c.in_ok-step.ensures.kept
    ∙ ap (λ (x : model.StepTree). old ++ model.MakeBranch (guard_of s (view_setting c.args.setting.now) guard) (weight_of s guard) x ∷ []) c.in_ok-step.ensures.step

pub add_branches-loop-branch-preserved : goal.add_branches-loop-branch-preserved
add_branches-loop-branch-preserved t c = record {
  kept = c.in_ok-add_branch.ensures.kept ∙ c.loop-branch.invariant.kept;
  found = branches_more (sources_of c.args.numbered.now) (view_setting c.args.setting.now) c.args.level (view_setting c.loop-branch.setting) (map view_branch c.loop-branch.found.items) (map view_branch c.add_branch.new.found.items) _
      c.args.branches.now c.loop-branch.branch-index c.branch-item.result c.loop-branch-test.true c.branch-item.is c.loop-branch.invariant.kept c.in_ok-add_branch.ensures.found c.loop-branch.invariant.found;
}

pub add_arm-returns-clause-found : goal.add_arm-returns-clause-found
add_arm-returns-clause-found t c =
    let s = sources_of c.args.numbered.now in
    let old = view_arms c.args.found.now in
    let label = view_arm_label c.args.arm.now.label in
    c.in_ok-push_arm.ensures ∙ ap (λ (x : Shown). with_label (sources_of x) old label (view_step c.in_ok-step.step.value)) (c.known.ensures ∙ c.sources.ensures) ∙ ap (with_label s old label) c.in_ok-step.ensures.step

pub add_arms-loop-arm-preserved : goal.add_arms-loop-arm-preserved
add_arms-loop-arm-preserved t c = record {
  kept = c.in_ok-add_arm.ensures.kept ∙ c.loop-arm.invariant.kept;
  found = arms_more (sources_of c.args.numbered.now) (view_setting c.args.setting.now) c.args.level (view_setting c.loop-arm.setting) (view_arms c.loop-arm.found) (view_arms c.add_arm.new.found) _
      c.args.arms.now c.loop-arm.arm-index c.arm-item.result c.loop-arm-test.true c.arm-item.is c.loop-arm.invariant.kept c.in_ok-add_arm.ensures.found c.loop-arm.invariant.found;
}
