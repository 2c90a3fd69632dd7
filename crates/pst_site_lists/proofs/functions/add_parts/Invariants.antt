use Rattle.std.proofs.Common.{◌≡◌, ◌++◌, drop, map}
use Rattle.std.specs.List.{flat_map}
use Rattle.pst_ast.specs.DeclarationView.{view_function, view_component_part}
use Rattle.pst_type_rules.specs.Sites.{function_of, functions_in_part}
use Rattle.pst_site_lists.proofs.functions.add_parts.Given as goal

abbrev pub invariant-loop-part : goal.invariant-loop-part
invariant-loop-part l =
    map (λ f. function_of (view_function f.now)) l.found.items ++ flat_map functions_in_part (map view_component_part (drop l.part-index l.parts))
    ≡ map (λ f. function_of (view_function f.now)) l.initial.found.items ++ flat_map functions_in_part (map view_component_part l.parts)
