use Rattle.std.proofs.Common.{◌≡◌, ◌++◌, drop, map}
use Rattle.std.specs.List.{flat_map}
use Rattle.pst_ast.specs.DeclarationView.{view_object, view_component_part}
use Rattle.pst_elab_rules.specs.Types.{objects_in_part, object_of_tree}
use Rattle.pst_declared_parts.proofs.objects.add_parts.Given as goal

abbrev pub invariant-loop-part : goal.invariant-loop-part
invariant-loop-part l =
    map (λ a. object_of_tree (view_object a.now)) l.found.items ++ flat_map objects_in_part (map view_component_part (drop l.part-index l.parts))
    ≡ map (λ a. object_of_tree (view_object a.now)) l.initial.found.items ++ flat_map objects_in_part (map view_component_part l.parts)
