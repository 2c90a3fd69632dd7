use Rattle.std.proofs.Common.{arith, ◌≡◌, ◌++◌, OnOk, List, ap, sym, subst, ◌∙◌}
use Rattle.std.proofs.lemmas.Grind.{common_steps}
use Rattle.pst_token.specs.declared.token.Token.{Token}
use Rattle.pst_ast.specs.declared.activity.CoreNode.{CoreNode}
use Rattle.pst_ast.specs.ActivityView.{view_core}
use Rattle.pst_ast.specs.ActivitySpelling.{spell_core}
use Rattle.pst_spell_act.proofs.ActivityRows.{sequence_spells, together_spells, select_spells, match_spells}
use Rattle.pst_spell_act.proofs.spell_activity.+activity_spelling.Goals as goal

pub add_core-returns-in_ok-add_statements-in-Sequence : goal.add_core-returns-in_ok-add_statements-in-Sequence
add_core-returns-in_ok-add_statements-in-Sequence t c = subst (λ (ts : List Token). OnOk c.push_mark-in-Sequence-2.result (c.push_mark-in-Sequence-2.new.tokens.items ≡ c.args.tokens.now.items ++ ts)) (sym (ap (λ (k : CoreNode). spell_core (view_core k)) c.in-Sequence.is ∙ sequence_spells c.in-Sequence.sequence c.in-Sequence.left_brace c.in-Sequence.statements c.in-Sequence.right_brace)) (grind (arith, common_steps))

pub add_core-returns-in_ok-add_statements-in-Together : goal.add_core-returns-in_ok-add_statements-in-Together
add_core-returns-in_ok-add_statements-in-Together t c = subst (λ (ts : List Token). OnOk c.push_mark-in-Together-3.result (c.push_mark-in-Together-3.new.tokens.items ≡ c.args.tokens.now.items ++ ts)) (sym (ap (λ (k : CoreNode). spell_core (view_core k)) c.in-Together.is ∙ together_spells c.in-Together.word c.in-Together.place c.in-Together.join c.in-Together.left_brace c.in-Together.statements c.in-Together.right_brace)) (grind (arith, common_steps))

pub add_core-returns-in_ok-add_branches-in-Select : goal.add_core-returns-in_ok-add_branches-in-Select
add_core-returns-in_ok-add_branches-in-Select t c = subst (λ (ts : List Token). OnOk c.push_mark-in-Select-3.result (c.push_mark-in-Select-3.new.tokens.items ≡ c.args.tokens.now.items ++ ts)) (sym (ap (λ (k : CoreNode). spell_core (view_core k)) c.in-Select.is ∙ select_spells c.in-Select.select c.in-Select.left_brace c.in-Select.first c.in-Select.rest c.in-Select.right_brace)) (grind (arith, common_steps))

pub add_core-returns-in_ok-add_arms-in-Match : goal.add_core-returns-in_ok-add_arms-in-Match
add_core-returns-in_ok-add_arms-in-Match t c = subst (λ (ts : List Token). OnOk c.push_mark-in-Match-2.result (c.push_mark-in-Match-2.new.tokens.items ≡ c.args.tokens.now.items ++ ts)) (sym (ap (λ (k : CoreNode). spell_core (view_core k)) c.in-Match.is ∙ match_spells c.in-Match.match_ c.in-Match.left_parenthesis c.in-Match.expr c.in-Match.right_parenthesis c.in-Match.left_brace c.in-Match.first c.in-Match.rest c.in-Match.right_brace)) (grind (arith, common_steps))
