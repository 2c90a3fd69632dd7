use Rattle.std.proofs.Common.{◌≡◌, drop, map}
use Rattle.std.specs.List.{flat_map, fold}
use Rattle.pst_ast.specs.DeclarationView.{view_next_enum_item}
use Rattle.pst_ast.specs.Declarations.{next_item}
use Rattle.pst_ast.specs.Uses.{enum_value_uses}
use Rattle.pst_walk.proofs.show_type.show_next_enum_items.Given as goal

abbrev pub invariant-loop-next : goal.invariant-loop-next
invariant-loop-next g l = fold g.V.Visitor.step l.visitor (flat_map (enum_value_uses l.component) (map next_item (map view_next_enum_item (drop l.next-index l.items)))) ≡ fold g.V.Visitor.step l.initial.visitor (flat_map (enum_value_uses l.component) (map next_item (map view_next_enum_item l.items)))
