use Rattle.std.proofs.Common.{◌≡◌, ◌++◌, drop, map}
use Rattle.std.specs.List.{flat_map}
use Rattle.pst_ast.specs.DeclarationView.{view_object, view_item}
use Rattle.pst_elab_rules.specs.Types.{objects_in_item, object_of_tree}
use Rattle.pst_declared_parts.proofs.objects.add_items.Given as goal

abbrev pub invariant-loop-item : goal.invariant-loop-item
invariant-loop-item l =
    map (λ a. object_of_tree (view_object a.now)) l.found.items ++ flat_map objects_in_item (map view_item (drop l.item-index l.items))
    ≡ map (λ a. object_of_tree (view_object a.now)) l.initial.found.items ++ flat_map objects_in_item (map view_item l.items)
