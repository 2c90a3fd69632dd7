use Rattle.std.proofs.Common.{◌≡◌, drop, map}
use Rattle.std.specs.List.{flat_map, fold}
use Rattle.pst_ast.specs.SharedView.{view_next_expr}
use Rattle.pst_ast.specs.Uses.{InBody, next_expr, whole_uses}
use Rattle.pst_walk_body.proofs.show_body.show_next_arguments.Given as goal

abbrev pub invariant-loop-next : goal.invariant-loop-next
invariant-loop-next g l = fold g.V.Visitor.step l.visitor (flat_map (whole_uses l.at InBody) (map next_expr (map view_next_expr (drop l.next-index l.arguments)))) ≡ fold g.V.Visitor.step l.initial.visitor (flat_map (whole_uses l.at InBody) (map next_expr (map view_next_expr l.arguments)))
