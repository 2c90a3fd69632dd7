use Rattle.std.proofs.Common.{◌≡◌, ◌++◌, drop, map}
use Rattle.std.specs.List.{flat_map}
use Rattle.pst_ast.specs.DeclarationView.{view_item}
use Rattle.pst_ast.specs.Declarations.{in_item_of_unit}
use Rattle.pst_collect.proofs.collect_type.add_items.Given as goal

abbrev pub invariant-loop-item : goal.invariant-loop-item
invariant-loop-item l = l.found.items ++ flat_map in_item_of_unit (map view_item (drop l.item-index l.items)) ≡ l.initial.found.items ++ flat_map in_item_of_unit (map view_item l.items)
