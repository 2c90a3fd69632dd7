use Rattle.std.proofs.Common.{◌≡◌, drop, map}
use Rattle.std.specs.List.{flat_map, fold}
use Rattle.pst_ast.specs.DeclarationView.{view_component_part}
use Rattle.pst_ast.specs.Uses.{component_part_uses}
use Rattle.pst_walk.proofs.show_component.show_component_parts.Given as goal

abbrev pub invariant-loop-part : goal.invariant-loop-part
invariant-loop-part g l = fold g.V.Visitor.step l.visitor (flat_map (component_part_uses l.component) (map view_component_part (drop l.part-index l.parts))) ≡ fold g.V.Visitor.step l.initial.visitor (flat_map (component_part_uses l.component) (map view_component_part l.parts))
