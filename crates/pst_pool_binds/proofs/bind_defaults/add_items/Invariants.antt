use Rattle.std.proofs.Common.{◌≡◌, ◌++◌, drop, map}
use Rattle.std.specs.List.{flat_map}
use Rattle.pst_ast.specs.DeclarationView.{view_item}
use Rattle.pst_pool_binds.specs.FoundBinds.{view_defaults}
use Rattle.pst_pool_binds.specs.PoolBinds.{default_in_item}
use Rattle.pst_pool_binds.proofs.bind_defaults.add_items.Given as goal

abbrev pub invariant-loop-item : goal.invariant-loop-item
invariant-loop-item l =
    view_defaults l.found.items ++ flat_map default_in_item (map view_item (drop l.item-index l.items)) ≡ view_defaults l.initial.found.items ++ flat_map default_in_item (map view_item l.items)
