use Rattle.std.proofs.Common.{◌≡◌, ◌++◌, drop, map}
use Rattle.std.specs.List.{flat_map}
use Rattle.pst_ast.specs.DeclarationView.{view_function, view_item}
use Rattle.pst_type_rules.specs.Sites.{function_of, functions_in_item}
use Rattle.pst_site_lists.proofs.functions.add_items.Given as goal

abbrev pub invariant-loop-item : goal.invariant-loop-item
invariant-loop-item l =
    map (λ f. function_of (view_function f.now)) l.found.items ++ flat_map functions_in_item (map view_item (drop l.item-index l.items))
    ≡ map (λ f. function_of (view_function f.now)) l.initial.found.items ++ flat_map functions_in_item (map view_item l.items)
