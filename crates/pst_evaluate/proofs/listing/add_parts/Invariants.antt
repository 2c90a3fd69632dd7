use Rattle.std.proofs.Common.{◌≡◌, ◌++◌, drop, map}
use Rattle.std.specs.List.{flat_map}
use Rattle.pst_ast.specs.DeclarationView.{view_component_part}
use Rattle.pst_type_rules.specs.Enums.{enums_in_part}
use Rattle.pst_evaluate.specs.Listed.{items_of, view_each}
use Rattle.pst_evaluate.proofs.listing.add_parts.Given as goal

abbrev pub invariant-loop-part : goal.invariant-loop-part
invariant-loop-part l =
    view_each l.found.items ++ flat_map items_of (flat_map (enums_in_part l.component) (map view_component_part (drop l.part-index l.parts)))
    ≡ view_each l.initial.found.items ++ flat_map items_of (flat_map (enums_in_part l.component) (map view_component_part l.parts))
