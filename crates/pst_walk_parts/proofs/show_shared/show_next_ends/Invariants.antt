use Rattle.std.proofs.Common.{◌≡◌, drop}
use Rattle.std.specs.List.{flat_map, fold}
use Rattle.pst_ast.specs.ExpressionView.{view_range}
use Rattle.pst_ast.specs.Uses.{end_uses}
use Rattle.pst_walk_parts.proofs.show_shared.show_next_ends.Given as goal

abbrev pub invariant-loop-next : goal.invariant-loop-next
invariant-loop-next g l = fold g.V.Visitor.step l.visitor (flat_map (λ next. end_uses l.at (view_range next.range)) (drop l.next-index l.ranges)) ≡ fold g.V.Visitor.step l.initial.visitor (flat_map (λ next. end_uses l.at (view_range next.range)) l.ranges)
