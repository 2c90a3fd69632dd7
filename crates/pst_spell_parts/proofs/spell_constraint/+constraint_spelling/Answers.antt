use Rattle.std.proofs.Common.{arith, ◌≡◌, ◌++◌, OnOk, List, ap, sym, subst, ◌∙◌}
use Rattle.std.proofs.lemmas.Grind.{common_steps}
use Rattle.pst_token.specs.declared.token.Token.{Token}
use Rattle.pst_ast.specs.declared.constraint.ConstraintNode.{ConstraintNode}
use Rattle.pst_ast.specs.ConstraintView.{view_constraint}
use Rattle.pst_ast.specs.ConstraintSpelling.{spell_constraint}
use Rattle.pst_spell_parts.proofs.ConstraintRows.{block_spells}
use Rattle.pst_spell_parts.proofs.spell_constraint.+constraint_spelling.Goals as goal

pub add_constraint-returns-in_ok-add_constraint_items-in-Block : goal.add_constraint-returns-in_ok-add_constraint_items-in-Block
add_constraint-returns-in_ok-add_constraint_items-in-Block t c = subst (λ (ts : List Token). OnOk c.push_mark-in-Block.result (c.push_mark-in-Block.new.tokens.items ≡ c.args.tokens.now.items ++ ts)) (sym (ap (λ (k : ConstraintNode). spell_constraint (view_constraint k)) c.in-Block.is ∙ block_spells c.in-Block.left_brace c.in-Block.items c.in-Block.right_brace)) (grind (arith, common_steps))
