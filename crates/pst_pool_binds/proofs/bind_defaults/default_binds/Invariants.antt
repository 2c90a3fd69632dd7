use Rattle.std.proofs.Common.{◌≡◌, ◌++◌, drop, map}
use Rattle.std.specs.List.{flat_map}
use Rattle.pst_ast.specs.DeclarationView.{view_unit}
use Rattle.pst_type_rules.specs.Sites.{items_of}
use Rattle.pst_pool_binds.specs.FoundBinds.{view_defaults}
use Rattle.pst_pool_binds.specs.PoolBinds.{default_in_item}
use Rattle.pst_pool_binds.proofs.bind_defaults.default_binds.Given as goal

abbrev pub invariant-loop-unit : goal.invariant-loop-unit
invariant-loop-unit l =
    view_defaults l.found.items ++ flat_map default_in_item (flat_map items_of (map view_unit (drop l.unit-index l.units))) ≡ flat_map default_in_item (flat_map items_of (map view_unit l.units))
