use Rattle.std.proofs.Common.{◌≡◌, drop, map}
use Rattle.std.specs.List.{flat_map, fold}
use Rattle.pst_ast.specs.ActivityView.{view_statement, view_branch, view_arm}
use Rattle.pst_ast.specs.Uses.{statement_uses, branch_uses, arm_uses}
use Rattle.pst_walk_act.proofs.show_activity.+activity_uses.Given as goal

abbrev pub invariant-show_statements-loop-statement : goal.invariant-show_statements-loop-statement
invariant-show_statements-loop-statement g l = (l.at ≡ l.initial.at) × (fold g.V.Visitor.step l.visitor (flat_map (statement_uses l.initial.at) (map view_statement (drop l.statement-index l.statements))) ≡ fold g.V.Visitor.step l.initial.visitor (flat_map (statement_uses l.initial.at) (map view_statement l.statements)))

abbrev pub invariant-show_branches-loop-branch : goal.invariant-show_branches-loop-branch
invariant-show_branches-loop-branch g l = (l.at ≡ l.initial.at) × (fold g.V.Visitor.step l.visitor (flat_map (branch_uses l.initial.at) (map view_branch (drop l.branch-index l.branches))) ≡ fold g.V.Visitor.step l.initial.visitor (flat_map (branch_uses l.initial.at) (map view_branch l.branches)))

abbrev pub invariant-show_arms-loop-arm : goal.invariant-show_arms-loop-arm
invariant-show_arms-loop-arm g l = (l.at ≡ l.initial.at) × (fold g.V.Visitor.step l.visitor (flat_map (arm_uses l.initial.at) (map view_arm (drop l.arm-index l.arms))) ≡ fold g.V.Visitor.step l.initial.visitor (flat_map (arm_uses l.initial.at) (map view_arm l.arms)))
