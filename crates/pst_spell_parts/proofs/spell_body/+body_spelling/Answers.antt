use Rattle.std.proofs.Common.{arith, ◌≡◌, ◌++◌, OnOk, List, ap, sym, subst, ◌∙◌}
use Rattle.std.proofs.lemmas.Grind.{common_steps}
use Rattle.pst_token.specs.declared.token.Token.{Token}
use Rattle.pst_ast.specs.declared.body.BodyStatement.{BodyStatement}
use Rattle.pst_ast.specs.BodyView.{view_body_statement}
use Rattle.pst_ast.specs.BodySpelling.{spell_body_statement}
use Rattle.pst_spell_parts.proofs.BodyRows.{block_spells}
use Rattle.pst_spell_parts.proofs.spell_body.+body_spelling.Goals as goal

pub add_body_statement-returns-in_ok-add_body_statements-in-Block : goal.add_body_statement-returns-in_ok-add_body_statements-in-Block
add_body_statement-returns-in_ok-add_body_statements-in-Block t c = subst (λ (ts : List Token). OnOk c.push_mark-in-Block-2.result (c.push_mark-in-Block-2.new.tokens.items ≡ c.args.tokens.now.items ++ ts)) (sym (ap (λ (k : BodyStatement). spell_body_statement (view_body_statement k)) c.in-Block.is ∙ block_spells c.in-Block.left_brace c.in-Block.statements c.in-Block.right_brace)) (grind (arith, common_steps))
