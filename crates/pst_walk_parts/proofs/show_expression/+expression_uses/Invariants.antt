use Rattle.std.proofs.Common.{◌≡◌, drop}
use Rattle.std.specs.List.{flat_map, fold}
use Rattle.pst_ast.specs.ExpressionView.{view_next_part, view_next_range}
use Rattle.pst_ast.specs.Uses.{dotted_uses, comma_range_uses}
use Rattle.pst_walk_parts.proofs.show_expression.+expression_uses.Given as goal

abbrev pub invariant-show_next_parts-loop-next : goal.invariant-show_next_parts-loop-next
invariant-show_next_parts-loop-next g l = fold g.V.Visitor.step l.visitor (flat_map (λ next. dotted_uses l.at (view_next_part next)) (drop l.next-index l.parts)) ≡ fold g.V.Visitor.step l.initial.visitor (flat_map (λ next. dotted_uses l.at (view_next_part next)) l.parts)

abbrev pub invariant-show_next_ranges-loop-next : goal.invariant-show_next_ranges-loop-next
invariant-show_next_ranges-loop-next g l = fold g.V.Visitor.step l.visitor (flat_map (λ next. comma_range_uses l.at (view_next_range next)) (drop l.next-index l.ranges)) ≡ fold g.V.Visitor.step l.initial.visitor (flat_map (λ next. comma_range_uses l.at (view_next_range next)) l.ranges)
