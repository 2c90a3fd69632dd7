use Rattle.std.proofs.Common.{◌≡◌, ◌++◌, drop, map}
use Rattle.std.specs.List.{flat_map}
use Rattle.pst_ast.specs.DeclarationView.{view_object, view_unit}
use Rattle.pst_type_rules.specs.Sites.{items_of}
use Rattle.pst_elab_rules.specs.Types.{objects_in_item, object_of_tree}
use Rattle.pst_declared_parts.proofs.objects.list_objects.Given as goal

abbrev pub invariant-loop-unit : goal.invariant-loop-unit
invariant-loop-unit l =
    map (λ a. object_of_tree (view_object a.now)) l.found.items ++ flat_map objects_in_item (flat_map items_of (map view_unit (drop l.unit-index l.units)))
    ≡ flat_map objects_in_item (flat_map items_of (map view_unit l.units))
