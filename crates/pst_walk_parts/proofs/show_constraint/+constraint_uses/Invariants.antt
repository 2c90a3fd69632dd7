use Rattle.std.proofs.Common.{◌≡◌, drop, map}
use Rattle.std.specs.List.{flat_map, fold}
use Rattle.pst_ast.specs.ConstraintView.{view_constraint_item}
use Rattle.pst_ast.specs.Uses.{item_uses}
use Rattle.pst_walk_parts.proofs.show_constraint.+constraint_uses.Given as goal

abbrev pub invariant-show_items-loop-item : goal.invariant-show_items-loop-item
invariant-show_items-loop-item g l = (l.at ≡ l.initial.at) × (fold g.V.Visitor.step l.visitor (flat_map (item_uses l.initial.at) (map view_constraint_item (drop l.item-index l.items))) ≡ fold g.V.Visitor.step l.initial.visitor (flat_map (item_uses l.initial.at) (map view_constraint_item l.items)))
