use Rattle.std.proofs.Common.{arith, ◌≡◌, ◌++◌, OnOk, List, ap, sym, subst, ◌∙◌}
use Rattle.std.proofs.lemmas.Grind.{common_steps}
use Rattle.pst_token.specs.declared.token.Token.{Token}
use Rattle.pst_ast.specs.declared.expression.PathNode.{PathNode}
use Rattle.pst_ast.specs.ExpressionView.{view_path}
use Rattle.pst_ast.specs.ExpressionSpelling.{spell_path}
use Rattle.pst_spell_parts.proofs.ExpressionRows.{dotted_spells, ranges_spell}
use Rattle.pst_spell_parts.proofs.spell_expression.+spelling.Goals as goal

pub add_path-returns-in_ok-add_part-in-Dotted : goal.add_path-returns-in_ok-add_part-in-Dotted
add_path-returns-in_ok-add_part-in-Dotted t c = subst (λ (ts : List Token). OnOk c.add_next_parts.result (c.add_next_parts.new.tokens.items ≡ c.args.tokens.now.items ++ ts)) (sym (ap (λ (p : PathNode). spell_path (view_path p)) c.in-Dotted.is ∙ dotted_spells c.in-Dotted.first c.in-Dotted.rest)) (grind (arith, common_steps))

pub add_ranges-returns : goal.add_ranges-returns
add_ranges-returns t c = subst (λ (ts : List Token). OnOk c.add_next_ranges.result (c.add_next_ranges.new.tokens.items ≡ c.args.tokens.now.items ++ ts)) (sym (ranges_spell c.args.ranges.now)) (grind (arith, common_steps))
