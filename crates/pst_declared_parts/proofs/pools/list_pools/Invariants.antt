use Rattle.std.proofs.Common.{◌≡◌, ◌++◌, drop, map}
use Rattle.std.specs.List.{flat_map}
use Rattle.pst_ast.specs.DeclarationView.{view_pool, view_unit}
use Rattle.pst_type_rules.specs.Sites.{items_of}
use Rattle.pst_elab_rules.specs.Model.{pools_in_item}
use Rattle.pst_declared_parts.specs.Listed.{pool_of_tree}
use Rattle.pst_declared_parts.proofs.pools.list_pools.Given as goal

abbrev pub invariant-loop-unit : goal.invariant-loop-unit
invariant-loop-unit l =
    map (λ a. pool_of_tree (view_pool a.now)) l.found.items ++ flat_map pools_in_item (flat_map items_of (map view_unit (drop l.unit-index l.units)))
    ≡ flat_map pools_in_item (flat_map items_of (map view_unit l.units))
