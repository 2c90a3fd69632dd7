use Rattle.std.proofs.Common.{◌≡◌, ◌++◌, drop, map}
use Rattle.std.specs.List.{flat_map}
use Rattle.pst_ast.specs.DeclarationView.{view_pool, view_item}
use Rattle.pst_elab_rules.specs.Model.{pools_in_item}
use Rattle.pst_declared_parts.specs.Listed.{pool_of_tree}
use Rattle.pst_declared_parts.proofs.pools.add_items.Given as goal

abbrev pub invariant-loop-item : goal.invariant-loop-item
invariant-loop-item l =
    map (λ a. pool_of_tree (view_pool a.now)) l.found.items ++ flat_map pools_in_item (map view_item (drop l.item-index l.items))
    ≡ map (λ a. pool_of_tree (view_pool a.now)) l.initial.found.items ++ flat_map pools_in_item (map view_item l.items)
