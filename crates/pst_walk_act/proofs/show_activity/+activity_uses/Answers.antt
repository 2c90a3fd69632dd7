use Rattle.std.proofs.Common.{arith, ◌≡◌, OnOk, List, ap, sym, subst, ◌∙◌}
use Rattle.std.proofs.lemmas.Grind.{common_steps}
use Rattle.std.specs.List.{fold}
use Rattle.pst_ast.specs.declared.activity.CoreNode.{CoreNode}
use Rattle.pst_ast.specs.ActivityView.{view_core}
use Rattle.pst_ast.specs.Uses.{Use, core_uses}
use Rattle.pst_walk_act.proofs.ActivityRows.{sequence_uses_are, together_uses_are, select_uses_are, match_uses_are}
use Rattle.pst_walk_act.proofs.Folds.{fold_append}
use Rattle.pst_walk_act.proofs.show_activity.+activity_uses.Goals as goal

pub show_core-returns-in-Sequence-clause-uses : goal.show_core-returns-in-Sequence-clause-uses
show_core-returns-in-Sequence-clause-uses g t c = subst (λ (us : List Use). OnOk c.show_statements.result (c.show_statements.new.visitor ≡ fold g.V.Visitor.step c.args.visitor.now us)) (sym (ap (λ (k : CoreNode). core_uses c.args.at.now (view_core k)) c.in-Sequence.is ∙ sequence_uses_are c.args.at.now c.in-Sequence.sequence c.in-Sequence.left_brace c.in-Sequence.statements c.in-Sequence.right_brace)) (grind (arith, common_steps))

pub show_core-returns-in_ok-show_optional_join-in-Together-clause-uses : goal.show_core-returns-in_ok-show_optional_join-in-Together-clause-uses
show_core-returns-in_ok-show_optional_join-in-Together-clause-uses g t c = subst (λ (us : List Use). OnOk c.show_statements-in-Together.result (c.show_statements-in-Together.new.visitor ≡ fold g.V.Visitor.step c.args.visitor.now us)) (sym (ap (λ (k : CoreNode). core_uses c.args.at.now (view_core k)) c.in-Together.is ∙ together_uses_are c.args.at.now c.in-Together.word c.in-Together.place c.in-Together.join c.in-Together.left_brace c.in-Together.statements c.in-Together.right_brace)) (grind (arith, common_steps, fold_append))

pub show_core-returns-in_ok-show_branch-in-Select-clause-uses : goal.show_core-returns-in_ok-show_branch-in-Select-clause-uses
show_core-returns-in_ok-show_branch-in-Select-clause-uses g t c = subst (λ (us : List Use). OnOk c.show_branches.result (c.show_branches.new.visitor ≡ fold g.V.Visitor.step c.args.visitor.now us)) (sym (ap (λ (k : CoreNode). core_uses c.args.at.now (view_core k)) c.in-Select.is ∙ select_uses_are c.args.at.now c.in-Select.select c.in-Select.left_brace c.in-Select.first c.in-Select.rest c.in-Select.right_brace)) (grind (arith, common_steps, fold_append))

pub show_core-returns-in_ok-show_arm-in-Match-clause-uses : goal.show_core-returns-in_ok-show_arm-in-Match-clause-uses
show_core-returns-in_ok-show_arm-in-Match-clause-uses g t c = subst (λ (us : List Use). OnOk c.show_arms.result (c.show_arms.new.visitor ≡ fold g.V.Visitor.step c.args.visitor.now us)) (sym (ap (λ (k : CoreNode). core_uses c.args.at.now (view_core k)) c.in-Match.is ∙ match_uses_are c.args.at.now c.in-Match.match_ c.in-Match.left_parenthesis c.in-Match.expr c.in-Match.right_parenthesis c.in-Match.left_brace c.in-Match.first c.in-Match.rest c.in-Match.right_brace)) (grind (arith, common_steps, fold_append))
