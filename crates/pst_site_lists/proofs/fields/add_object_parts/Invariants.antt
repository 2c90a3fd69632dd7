use Rattle.std.proofs.Common.{◌≡◌, ◌++◌, drop, map}
use Rattle.std.specs.List.{flat_map}
use Rattle.pst_ast.specs.DeclarationView.{view_object_part}
use Rattle.pst_ast.specs.Uses.{environment}
use Rattle.pst_type_rules.specs.Sites.{fields_in_object_part}
use Rattle.pst_site_lists.specs.Sited.{view_field_site}
use Rattle.pst_site_lists.proofs.fields.add_object_parts.Given as goal

abbrev pub invariant-loop-part : goal.invariant-loop-part
invariant-loop-part l =
    map view_field_site l.found.items ++ flat_map (fields_in_object_part (environment l.component l.owner)) (map view_object_part (drop l.part-index l.parts))
    ≡ map view_field_site l.initial.found.items ++ flat_map (fields_in_object_part (environment l.component l.owner)) (map view_object_part l.parts)
