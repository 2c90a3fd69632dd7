use Rattle.std.proofs.Common.{◌≡◌, ◌++◌, drop, map}
use Rattle.std.specs.List.{flat_map}
use Rattle.pst_ast.specs.ActivityView.{view_arm, view_branch, view_statement}
use Rattle.pst_elab_rules.specs.Ties.{arm_binds, branch_binds, statement_binds}
use Rattle.pst_path_readings.specs.Set.{view_setting}
use Rattle.pst_sources.specs.Shown.{sources_of}
use Rattle.pst_activity_ties.specs.Tied.{tied}
use Rattle.pst_activity_ties.proofs.walk.+ties.Given as goal

abbrev pub invariant-add_statements-loop-statement : goal.invariant-add_statements-loop-statement
invariant-add_statements-loop-statement l =
    l.found.items ++ tied (sources_of l.sources) (view_setting l.setting) (flat_map statement_binds (map view_statement (drop l.statement-index l.statements)))
    ≡ l.initial.found.items ++ tied (sources_of l.sources) (view_setting l.setting) (flat_map statement_binds (map view_statement l.statements))

abbrev pub invariant-add_branches-loop-branch : goal.invariant-add_branches-loop-branch
invariant-add_branches-loop-branch l =
    l.found.items ++ tied (sources_of l.sources) (view_setting l.setting) (flat_map branch_binds (map view_branch (drop l.branch-index l.branches)))
    ≡ l.initial.found.items ++ tied (sources_of l.sources) (view_setting l.setting) (flat_map branch_binds (map view_branch l.branches))

abbrev pub invariant-add_arms-loop-arm : goal.invariant-add_arms-loop-arm
invariant-add_arms-loop-arm l =
    l.found.items ++ tied (sources_of l.sources) (view_setting l.setting) (flat_map arm_binds (map view_arm (drop l.arm-index l.arms)))
    ≡ l.initial.found.items ++ tied (sources_of l.sources) (view_setting l.setting) (flat_map arm_binds (map view_arm l.arms))
