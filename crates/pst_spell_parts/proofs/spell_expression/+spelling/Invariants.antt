use Rattle.std.proofs.Common.{◌≡◌, ◌++◌, drop}
use Rattle.std.specs.List.{flat_map}
use Rattle.pst_ast.specs.ExpressionView.{view_next_part, view_next_range}
use Rattle.pst_ast.specs.ExpressionSpelling.{spell_next_part, spell_next_range}
use Rattle.pst_spell_parts.proofs.spell_expression.+spelling.Given as goal

abbrev pub invariant-add_next_parts-loop-next : goal.invariant-add_next_parts-loop-next
invariant-add_next_parts-loop-next l = l.tokens.items ++ flat_map (λ next. spell_next_part (view_next_part next)) (drop l.next-index l.parts) ≡ l.initial.tokens.items ++ flat_map (λ next. spell_next_part (view_next_part next)) l.parts

abbrev pub invariant-add_next_ranges-loop-next : goal.invariant-add_next_ranges-loop-next
invariant-add_next_ranges-loop-next l = l.tokens.items ++ flat_map (λ next. spell_next_range (view_next_range next)) (drop l.next-index l.ranges) ≡ l.initial.tokens.items ++ flat_map (λ next. spell_next_range (view_next_range next)) l.ranges
