use Rattle.std.proofs.Common.{arith, ◌≡◌, ◌++◌, OnOk, List, ap, sym, subst, ◌∙◌}
use Rattle.std.proofs.lemmas.Grind.{common_steps}
use Rattle.pst_ast.specs.declared.activity.CoreNode.{CoreNode}
use Rattle.pst_ast.specs.ActivityView.{view_core}
use Rattle.pst_ast.specs.declared.scope_declaration.Declaration.{Declaration}
use Rattle.pst_ast.specs.Declarations.{in_core}
use Rattle.pst_collect.proofs.ActivityRows.{sequence_declares, together_declares, select_declares, match_declares}
use Rattle.pst_collect.proofs.collect_activity.+activity.Goals as goal

pub add_core-returns-in-Sequence : goal.add_core-returns-in-Sequence
add_core-returns-in-Sequence t c = subst (λ (ds : List Declaration). OnOk c.add_statements.result (c.add_statements.new.found.items ≡ c.args.found.now.items ++ ds)) (sym (ap (λ (k : CoreNode). in_core c.args.owner (view_core k)) c.in-Sequence.is ∙ sequence_declares c.args.owner c.in-Sequence.sequence c.in-Sequence.left_brace c.in-Sequence.statements c.in-Sequence.right_brace)) (grind (arith, common_steps))

pub add_core-returns-in-Together : goal.add_core-returns-in-Together
add_core-returns-in-Together t c = subst (λ (ds : List Declaration). OnOk c.add_statements-in-Together.result (c.add_statements-in-Together.new.found.items ≡ c.args.found.now.items ++ ds)) (sym (ap (λ (k : CoreNode). in_core c.args.owner (view_core k)) c.in-Together.is ∙ together_declares c.args.owner c.in-Together.word c.in-Together.place c.in-Together.join c.in-Together.left_brace c.in-Together.statements c.in-Together.right_brace)) (grind (arith, common_steps))

pub add_core-returns-in_ok-add_branch-in-Select : goal.add_core-returns-in_ok-add_branch-in-Select
add_core-returns-in_ok-add_branch-in-Select t c = subst (λ (ds : List Declaration). OnOk c.add_branches.result (c.add_branches.new.found.items ≡ c.args.found.now.items ++ ds)) (sym (ap (λ (k : CoreNode). in_core c.args.owner (view_core k)) c.in-Select.is ∙ select_declares c.args.owner c.in-Select.select c.in-Select.left_brace c.in-Select.first c.in-Select.rest c.in-Select.right_brace)) (grind (arith, common_steps))

pub add_core-returns-in_ok-add_arm-in-Match : goal.add_core-returns-in_ok-add_arm-in-Match
add_core-returns-in_ok-add_arm-in-Match t c = subst (λ (ds : List Declaration). OnOk c.add_arms.result (c.add_arms.new.found.items ≡ c.args.found.now.items ++ ds)) (sym (ap (λ (k : CoreNode). in_core c.args.owner (view_core k)) c.in-Match.is ∙ match_declares c.args.owner c.in-Match.match_ c.in-Match.left_parenthesis c.in-Match.expr c.in-Match.right_parenthesis c.in-Match.left_brace c.in-Match.first c.in-Match.rest c.in-Match.right_brace)) (grind (arith, common_steps))
