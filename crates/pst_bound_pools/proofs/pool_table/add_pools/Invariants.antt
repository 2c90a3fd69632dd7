use Rattle.std.proofs.Common.{◌≡◌, ◌++◌, drop, map}
use Rattle.pst_ast.specs.declared.scope_declaration.Declaration.{Declaration}
use Rattle.pst_bound_pools.specs.ListedPools.{view_pools}
use Rattle.pst_bound_pools.proofs.pool_table.add_pools.Given as goal

abbrev pub invariant-loop-declaration : goal.invariant-loop-declaration
invariant-loop-declaration l = view_pools l.found.items ++ map (λ (d : Declaration). (l.number, d)) (drop l.declaration-index l.row) ≡ view_pools l.initial.found.items ++ map (λ (d : Declaration). (l.number, d)) l.row
