use Rattle.std.proofs.Common.{◌≡◌, ◌++◌, drop, map}
use Rattle.std.specs.List.{flat_map}
use Rattle.pst_ast.specs.DeclarationView.{view_item}
use Rattle.pst_type_rules.specs.Enums.{enums_in_item}
use Rattle.pst_evaluate.specs.Listed.{items_of, view_each}
use Rattle.pst_evaluate.proofs.listing.add_in_items.Given as goal

abbrev pub invariant-loop-item : goal.invariant-loop-item
invariant-loop-item l =
    view_each l.found.items ++ flat_map items_of (flat_map enums_in_item (map view_item (drop l.item-index l.items)))
    ≡ view_each l.initial.found.items ++ flat_map items_of (flat_map enums_in_item (map view_item l.items))
