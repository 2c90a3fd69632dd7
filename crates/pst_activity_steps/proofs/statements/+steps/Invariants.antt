use Rattle.std.proofs.Common.{◌≡◌, ◌++◌, ◌+◌, ◌*◌, drop, map}
use Rattle.std.specs.Prelude.{max}
use Rattle.std.specs.List.{filter_map}
use Rattle.pst_ast.specs.declared.activity.StatementNode.{size-StatementNode}
use Rattle.pst_ast.specs.declared.activity.CoreNode.{size-CoreNode}
use Rattle.pst_ast.specs.declared.activity.BranchNode.{size-BranchNode}
use Rattle.pst_ast.specs.declared.activity.ArmNode.{size-ArmNode}
use Rattle.pst_ast.specs.ActivityView.{view_arm as view_arm_node, view_branch as view_branch_node, view_statement}
use Rattle.pst_elab_rules.specs.Steps.{branch_step, statement_step}
use Rattle.pst_model.specs.ModelView.{view_branch, view_step}
use Rattle.pst_path_readings.specs.Set.{view_setting}
use Rattle.pst_sources.specs.Shown.{sources_of}
use Rattle.pst_step_forms.specs.Listed.{with_arms}
use Rattle.pst_step_forms.specs.Shown.{view_arms}
use Rattle.pst_activity_steps.proofs.statements.+steps.Given as goal

abbrev pub invariant-block-loop-statement : goal.invariant-block-loop-statement
invariant-block-loop-statement l = record {
  kept : view_setting l.setting ≡ view_setting l.initial.setting;
  found : map view_step l.steps.items ++ filter_map (statement_step (sources_of l.numbered) (view_setting l.initial.setting) l.level) (map view_statement (drop l.statement-index l.statements))
      ≡ filter_map (statement_step (sources_of l.numbered) (view_setting l.initial.setting) l.level) (map view_statement l.statements);
}

abbrev pub invariant-add_branches-loop-branch : goal.invariant-add_branches-loop-branch
invariant-add_branches-loop-branch l = record {
  kept : view_setting l.setting ≡ view_setting l.initial.setting;
  found : map view_branch l.found.items ++ map (branch_step (sources_of l.numbered) (view_setting l.initial.setting) l.level) (map view_branch_node (drop l.branch-index l.branches))
      ≡ map view_branch l.initial.found.items ++ map (branch_step (sources_of l.numbered) (view_setting l.initial.setting) l.level) (map view_branch_node l.branches);
}

abbrev pub invariant-add_arms-loop-arm : goal.invariant-add_arms-loop-arm
invariant-add_arms-loop-arm l = record {
  kept : view_setting l.setting ≡ view_setting l.initial.setting;
  found : with_arms (sources_of l.numbered) (view_setting l.initial.setting) l.level (view_arms l.found) (map view_arm_node (drop l.arm-index l.arms))
      ≡ with_arms (sources_of l.numbered) (view_setting l.initial.setting) l.level (view_arms l.initial.found) (map view_arm_node l.arms);
}

abbrev pub decreases-statement_step : goal.decreases-statement_step
decreases-statement_step l = 8 * size-StatementNode l.statement.now

abbrev pub decreases-one_step : goal.decreases-one_step
decreases-one_step l = 8 * size-StatementNode l.statement.now + 1

abbrev pub decreases-block : goal.decreases-block
decreases-block l = 8 * goal.size-block l + 1

abbrev pub decreases-core_step : goal.decreases-core_step
decreases-core_step l = 8 * size-CoreNode l.core.now

abbrev pub decreases-if_step : goal.decreases-if_step
decreases-if_step l = 8 * size-StatementNode l.part.now + 2

abbrev pub decreases-if_else_step : goal.decreases-if_else_step
decreases-if_else_step l = 8 * max (size-StatementNode l.part.now) (size-StatementNode l.other.now) + 2

abbrev pub decreases-repeat_step : goal.decreases-repeat_step
decreases-repeat_step l = 8 * size-StatementNode l.statement.now + 4

abbrev pub decreases-turn : goal.decreases-turn
decreases-turn l = 8 * size-StatementNode l.statement.now + 3

abbrev pub decreases-add_branch : goal.decreases-add_branch
decreases-add_branch l = 8 * size-BranchNode l.branch.now

abbrev pub decreases-add_branches : goal.decreases-add_branches
decreases-add_branches l = 8 * goal.size-add_branches l + 1

abbrev pub decreases-add_arm : goal.decreases-add_arm
decreases-add_arm l = 8 * size-ArmNode l.arm.now

abbrev pub decreases-add_arms : goal.decreases-add_arms
decreases-add_arms l = 8 * goal.size-add_arms l + 1
