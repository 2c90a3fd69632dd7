use Rattle.std.proofs.Common.{◌≡◌, ◌++◌, drop, map}
use Rattle.std.specs.List.{flat_map}
use Rattle.pst_ast.specs.DeclarationView.{view_component_part}
use Rattle.pst_pool_binds.specs.FoundBinds.{view_defaults}
use Rattle.pst_pool_binds.specs.PoolBinds.{default_in_part}
use Rattle.pst_pool_binds.proofs.bind_defaults.add_parts.Given as goal

abbrev pub invariant-loop-part : goal.invariant-loop-part
invariant-loop-part l =
    view_defaults l.found.items ++ flat_map (default_in_part l.component) (map view_component_part (drop l.part-index l.parts))
    ≡ view_defaults l.initial.found.items ++ flat_map (default_in_part l.component) (map view_component_part l.parts)
