use Rattle.std.proofs.Common.{arith, ◌≡◌, ◌++◌, OnOk, List, ap, map, sym, subst, ◌∙◌}
use Rattle.std.proofs.lemmas.Grind.{common_steps}
use Rattle.std.specs.List.{flat_map}
use Rattle.pst_ast.specs.declared.activity.CoreNode.{CoreNode}
use Rattle.pst_ast.specs.ActivityTree.{BindTree}
use Rattle.pst_ast.specs.ActivityView.{view_arm, view_branch, view_core, view_statement}
use Rattle.pst_elab_rules.specs.Ties.{arm_binds, branch_binds, core_binds, statement_binds}
use Rattle.pst_model.specs.declared.activity.Tie.{Tie}
use Rattle.pst_path_readings.specs.Set.{view_setting}
use Rattle.pst_sources.specs.Shown.{sources_of}
use Rattle.pst_activity_ties.specs.Tied.{tied}
use Rattle.pst_activity_ties.proofs.Rows.{tied_both, tied_more, sequence_binds_are, together_binds_are, select_binds_are, match_binds_are}
use Rattle.pst_activity_ties.proofs.walk.+ties.Goals as goal

pub add_core-returns-in-Sequence : goal.add_core-returns-in-Sequence
add_core-returns-in-Sequence t c =
    subst (λ (bs : List BindTree). OnOk c.add_statements.result (c.add_statements.new.found.items ≡ c.args.found.now.items ++ tied (sources_of c.args.sources.now) (view_setting c.args.setting.now) bs))
    (sym (ap (λ (k : CoreNode). core_binds (view_core k)) c.in-Sequence.is ∙ sequence_binds_are c.in-Sequence.sequence c.in-Sequence.left_brace c.in-Sequence.statements c.in-Sequence.right_brace))
    (grind (arith, common_steps))

pub add_core-returns-in-Together : goal.add_core-returns-in-Together
add_core-returns-in-Together t c =
    subst (λ (bs : List BindTree). OnOk c.add_statements-in-Together.result (c.add_statements-in-Together.new.found.items ≡ c.args.found.now.items ++ tied (sources_of c.args.sources.now) (view_setting c.args.setting.now) bs))
    (sym (ap (λ (k : CoreNode). core_binds (view_core k)) c.in-Together.is ∙ together_binds_are c.in-Together.word c.in-Together.place c.in-Together.join c.in-Together.left_brace c.in-Together.statements c.in-Together.right_brace))
    (grind (arith, common_steps))

pub add_core-returns-in_ok-add_branch-in-Select : goal.add_core-returns-in_ok-add_branch-in-Select
add_core-returns-in_ok-add_branch-in-Select t c =
    let s = sources_of c.args.sources.now in
    let setting = view_setting c.args.setting.now in
    let first = branch_binds (view_branch c.in-Select.first.value) in
    let rest = flat_map branch_binds (map view_branch c.in-Select.rest.items) in
    let is = ap (λ (k : CoreNode). core_binds (view_core k)) c.in-Select.is ∙ select_binds_are c.in-Select.select c.in-Select.left_brace c.in-Select.first c.in-Select.rest c.in-Select.right_brace in
    let added : OnOk c.add_branches.result (c.add_branches.new.found.items ≡ c.add_branch.new.found.items ++ tied s setting rest) = grind (arith, common_steps) in
    let begun : c.add_branch.new.found.items ≡ c.args.found.now.items ++ tied s setting first = grind (arith, common_steps) in
    subst (λ (ts : List Tie). OnOk c.add_branches.result (c.add_branches.new.found.items ≡ ts)) (tied_both s setting c.args.found.now.items c.add_branch.new.found.items first rest (core_binds (view_core c.args.core.now)) begun is) added

pub add_core-returns-in_ok-add_arm-in-Match : goal.add_core-returns-in_ok-add_arm-in-Match
add_core-returns-in_ok-add_arm-in-Match t c =
    let s = sources_of c.args.sources.now in
    let setting = view_setting c.args.setting.now in
    let first = arm_binds (view_arm c.in-Match.first.value) in
    let rest = flat_map arm_binds (map view_arm c.in-Match.rest.items) in
    let is = ap (λ (k : CoreNode). core_binds (view_core k)) c.in-Match.is ∙ match_binds_are c.in-Match.match_ c.in-Match.left_parenthesis c.in-Match.expr c.in-Match.right_parenthesis c.in-Match.left_brace c.in-Match.first c.in-Match.rest c.in-Match.right_brace in
    let added : OnOk c.add_arms.result (c.add_arms.new.found.items ≡ c.add_arm.new.found.items ++ tied s setting rest) = grind (arith, common_steps) in
    let begun : c.add_arm.new.found.items ≡ c.args.found.now.items ++ tied s setting first = grind (arith, common_steps) in
    subst (λ (ts : List Tie). OnOk c.add_arms.result (c.add_arms.new.found.items ≡ ts)) (tied_both s setting c.args.found.now.items c.add_arm.new.found.items first rest (core_binds (view_core c.args.core.now)) begun is) added

pub add_statements-loop-statement-preserved : goal.add_statements-loop-statement-preserved
add_statements-loop-statement-preserved t c =
    tied_more (sources_of c.args.sources.now) (view_setting c.args.setting.now) view_statement statement_binds c.loop-statement.found.items c.add_statement.new.found.items _ c.args.statements.now
    c.loop-statement.statement-index c.statement-item.result c.loop-statement-test.true c.statement-item.is c.in_ok-add_statement.ensures c.loop-statement.invariant

pub add_branches-loop-branch-preserved : goal.add_branches-loop-branch-preserved
add_branches-loop-branch-preserved t c =
    tied_more (sources_of c.args.sources.now) (view_setting c.args.setting.now) view_branch branch_binds c.loop-branch.found.items c.add_branch.new.found.items _ c.args.branches.now
    c.loop-branch.branch-index c.branch-item.result c.loop-branch-test.true c.branch-item.is c.in_ok-add_branch.ensures c.loop-branch.invariant

pub add_arms-loop-arm-preserved : goal.add_arms-loop-arm-preserved
add_arms-loop-arm-preserved t c =
    tied_more (sources_of c.args.sources.now) (view_setting c.args.setting.now) view_arm arm_binds c.loop-arm.found.items c.add_arm.new.found.items _ c.args.arms.now
    c.loop-arm.arm-index c.arm-item.result c.loop-arm-test.true c.arm-item.is c.in_ok-add_arm.ensures c.loop-arm.invariant
