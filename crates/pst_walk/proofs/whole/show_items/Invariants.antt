use Rattle.std.proofs.Common.{◌≡◌, drop, map}
use Rattle.std.specs.List.{flat_map, fold}
use Rattle.pst_ast.specs.DeclarationView.{view_item}
use Rattle.pst_ast.specs.Uses.{unit_item_uses}
use Rattle.pst_walk.proofs.whole.show_items.Given as goal

abbrev pub invariant-loop-item : goal.invariant-loop-item
invariant-loop-item g l = fold g.V.Visitor.step l.visitor (flat_map unit_item_uses (map view_item (drop l.item-index l.items))) ≡ fold g.V.Visitor.step l.initial.visitor (flat_map unit_item_uses (map view_item l.items))
