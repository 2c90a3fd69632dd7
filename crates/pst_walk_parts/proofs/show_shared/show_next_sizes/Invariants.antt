use Rattle.std.proofs.Common.{◌≡◌, drop, map}
use Rattle.std.specs.List.{flat_map, fold}
use Rattle.pst_ast.specs.DeclarationView.{view_next_field}
use Rattle.pst_ast.specs.Declarations.{next_field_part}
use Rattle.pst_ast.specs.Uses.{size_of_part}
use Rattle.pst_walk_parts.proofs.show_shared.show_next_sizes.Given as goal

abbrev pub invariant-loop-next : goal.invariant-loop-next
invariant-loop-next g l = fold g.V.Visitor.step l.visitor (flat_map (size_of_part l.at) (map next_field_part (map view_next_field (drop l.next-index l.fields)))) ≡ fold g.V.Visitor.step l.initial.visitor (flat_map (size_of_part l.at) (map next_field_part (map view_next_field l.fields)))
