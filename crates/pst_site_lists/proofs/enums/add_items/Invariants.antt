use Rattle.std.proofs.Common.{◌≡◌, ◌++◌, drop, map}
use Rattle.std.specs.List.{flat_map}
use Rattle.pst_ast.specs.DeclarationView.{view_item}
use Rattle.pst_type_rules.specs.Enums.{enums_in_item}
use Rattle.pst_site_lists.specs.Sited.{view_enum_site}
use Rattle.pst_site_lists.proofs.enums.add_items.Given as goal

abbrev pub invariant-loop-item : goal.invariant-loop-item
invariant-loop-item l =
    map view_enum_site l.found.items ++ flat_map enums_in_item (map view_item (drop l.item-index l.items))
    ≡ map view_enum_site l.initial.found.items ++ flat_map enums_in_item (map view_item l.items)
