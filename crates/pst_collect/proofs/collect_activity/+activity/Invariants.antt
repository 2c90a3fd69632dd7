use Rattle.std.proofs.Common.{◌≡◌, ◌++◌, drop, map}
use Rattle.std.specs.List.{flat_map}
use Rattle.pst_ast.specs.ActivityView.{view_statement, view_branch, view_arm}
use Rattle.pst_ast.specs.Declarations.{in_statement, in_branch, in_arm}
use Rattle.pst_collect.proofs.collect_activity.+activity.Given as goal

abbrev pub invariant-add_statements-loop-statement : goal.invariant-add_statements-loop-statement
invariant-add_statements-loop-statement l = l.found.items ++ flat_map (in_statement l.owner) (map view_statement (drop l.statement-index l.statements)) ≡ l.initial.found.items ++ flat_map (in_statement l.owner) (map view_statement l.statements)

abbrev pub invariant-add_branches-loop-branch : goal.invariant-add_branches-loop-branch
invariant-add_branches-loop-branch l = l.found.items ++ flat_map (in_branch l.owner) (map view_branch (drop l.branch-index l.branches)) ≡ l.initial.found.items ++ flat_map (in_branch l.owner) (map view_branch l.branches)

abbrev pub invariant-add_arms-loop-arm : goal.invariant-add_arms-loop-arm
invariant-add_arms-loop-arm l = l.found.items ++ flat_map (in_arm l.owner) (map view_arm (drop l.arm-index l.arms)) ≡ l.initial.found.items ++ flat_map (in_arm l.owner) (map view_arm l.arms)
