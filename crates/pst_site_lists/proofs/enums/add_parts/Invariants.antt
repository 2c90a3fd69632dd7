use Rattle.std.proofs.Common.{◌≡◌, ◌++◌, drop, map}
use Rattle.std.specs.List.{flat_map}
use Rattle.pst_ast.specs.DeclarationView.{view_component_part}
use Rattle.pst_type_rules.specs.Enums.{enums_in_part}
use Rattle.pst_site_lists.specs.Sited.{view_enum_site}
use Rattle.pst_site_lists.proofs.enums.add_parts.Given as goal

abbrev pub invariant-loop-part : goal.invariant-loop-part
invariant-loop-part l =
    map view_enum_site l.found.items ++ flat_map (enums_in_part l.component) (map view_component_part (drop l.part-index l.parts))
    ≡ map view_enum_site l.initial.found.items ++ flat_map (enums_in_part l.component) (map view_component_part l.parts)
