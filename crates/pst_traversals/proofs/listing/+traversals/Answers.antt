use Rattle.std.proofs.Common.{arith, ◌≡◌, ◌++◌, OnOk, List, ap, sym, subst, ◌∙◌, append_assoc}
use Rattle.std.proofs.lemmas.Grind.{common_steps}
use Rattle.pst_ast.specs.declared.activity.CoreNode.{CoreNode}
use Rattle.pst_ast.specs.ActivityView.{view_core}
use Rattle.pst_traversals.specs.declared.listing.Traversed.{Traversed}
use Rattle.pst_traversals.specs.Listed.{all_in_core}
use Rattle.pst_traversals.proofs.Rows.{sequence_has, together_has, select_has, match_has}
use Rattle.pst_traversals.proofs.listing.+traversals.Goals as goal

pub add_core-returns-in-Sequence : goal.add_core-returns-in-Sequence
add_core-returns-in-Sequence t c = subst (λ (ts : List Traversed). OnOk c.add_statements.result (c.add_statements.new.found.items ≡ c.args.found.now.items ++ ts)) (sym (ap (λ (k : CoreNode). all_in_core c.args.within (view_core k)) c.in-Sequence.is ∙ sequence_has c.args.within c.in-Sequence.sequence c.in-Sequence.left_brace c.in-Sequence.statements c.in-Sequence.right_brace)) (grind (arith, common_steps))

pub add_core-returns-in-Together : goal.add_core-returns-in-Together
add_core-returns-in-Together t c = subst (λ (ts : List Traversed). OnOk c.add_statements-in-Together.result (c.add_statements-in-Together.new.found.items ≡ c.args.found.now.items ++ ts)) (sym (ap (λ (k : CoreNode). all_in_core c.args.within (view_core k)) c.in-Together.is ∙ together_has c.args.within c.in-Together.word c.in-Together.place c.in-Together.join c.in-Together.left_brace c.in-Together.statements c.in-Together.right_brace)) (grind (arith, common_steps))

pub add_core-returns-in_ok-add_branch-in-Select : goal.add_core-returns-in_ok-add_branch-in-Select
add_core-returns-in_ok-add_branch-in-Select t c = subst (λ (ts : List Traversed). OnOk c.add_branches.result (c.add_branches.new.found.items ≡ c.args.found.now.items ++ ts)) (sym (ap (λ (k : CoreNode). all_in_core c.args.within (view_core k)) c.in-Select.is ∙ select_has c.args.within c.in-Select.select c.in-Select.left_brace c.in-Select.first c.in-Select.rest c.in-Select.right_brace)) (grind (arith, common_steps, append_assoc))

pub add_core-returns-in_ok-add_arm-in-Match : goal.add_core-returns-in_ok-add_arm-in-Match
add_core-returns-in_ok-add_arm-in-Match t c = subst (λ (ts : List Traversed). OnOk c.add_arms.result (c.add_arms.new.found.items ≡ c.args.found.now.items ++ ts)) (sym (ap (λ (k : CoreNode). all_in_core c.args.within (view_core k)) c.in-Match.is ∙ match_has c.args.within c.in-Match.match_ c.in-Match.left_parenthesis c.in-Match.expr c.in-Match.right_parenthesis c.in-Match.left_brace c.in-Match.first c.in-Match.rest c.in-Match.right_brace)) (grind (arith, common_steps, append_assoc))
