use Rattle.std.proofs.Common.{◌≡◌, drop, map}
use Rattle.std.specs.List.{flat_map, fold}
use Rattle.pst_ast.specs.SharedView.{view_next_expr}
use Rattle.pst_ast.specs.Uses.{next_expr_uses}
use Rattle.pst_walk_parts.proofs.show_shared.show_next_exprs.Given as goal

abbrev pub invariant-loop-next : goal.invariant-loop-next
invariant-loop-next g l = fold g.V.Visitor.step l.visitor (flat_map (next_expr_uses l.at) (map view_next_expr (drop l.next-index l.items))) ≡ fold g.V.Visitor.step l.initial.visitor (flat_map (next_expr_uses l.at) (map view_next_expr l.items))
