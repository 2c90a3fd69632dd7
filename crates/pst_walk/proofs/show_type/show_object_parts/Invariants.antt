use Rattle.std.proofs.Common.{◌≡◌, drop, map}
use Rattle.std.specs.List.{flat_map, fold}
use Rattle.pst_ast.specs.DeclarationView.{view_object_part}
use Rattle.pst_ast.specs.Uses.{object_part_uses}
use Rattle.pst_walk.proofs.show_type.show_object_parts.Given as goal

abbrev pub invariant-loop-part : goal.invariant-loop-part
invariant-loop-part g l = (l.at ≡ l.initial.at) × (fold g.V.Visitor.step l.visitor (flat_map (object_part_uses l.initial.at) (map view_object_part (drop l.part-index l.parts))) ≡ fold g.V.Visitor.step l.initial.visitor (flat_map (object_part_uses l.initial.at) (map view_object_part l.parts)))
