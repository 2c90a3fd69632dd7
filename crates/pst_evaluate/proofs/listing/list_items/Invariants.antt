use Rattle.std.proofs.Common.{◌≡◌, ◌++◌, drop, map}
use Rattle.std.specs.List.{flat_map}
use Rattle.pst_ast.specs.DeclarationView.{view_unit}
use Rattle.pst_type_rules.specs.Enums.{enums_in_unit}
use Rattle.pst_evaluate.specs.Listed.{items_of, view_each}
use Rattle.pst_evaluate.proofs.listing.list_items.Given as goal

abbrev pub invariant-loop-unit : goal.invariant-loop-unit
invariant-loop-unit l = view_each l.found.items ++ flat_map items_of (flat_map enums_in_unit (map view_unit (drop l.unit-index l.units))) ≡ flat_map items_of (flat_map enums_in_unit (map view_unit l.units))
