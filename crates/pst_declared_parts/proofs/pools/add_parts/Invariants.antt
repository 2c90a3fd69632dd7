use Rattle.std.proofs.Common.{◌≡◌, ◌++◌, drop, map}
use Rattle.std.specs.List.{flat_map}
use Rattle.pst_ast.specs.DeclarationView.{view_pool, view_component_part}
use Rattle.pst_elab_rules.specs.Model.{pools_in_part}
use Rattle.pst_declared_parts.specs.Listed.{pool_of_tree}
use Rattle.pst_declared_parts.proofs.pools.add_parts.Given as goal

abbrev pub invariant-loop-part : goal.invariant-loop-part
invariant-loop-part l =
    map (λ a. pool_of_tree (view_pool a.now)) l.found.items ++ flat_map pools_in_part (map view_component_part (drop l.part-index l.parts))
    ≡ map (λ a. pool_of_tree (view_pool a.now)) l.initial.found.items ++ flat_map pools_in_part (map view_component_part l.parts)
