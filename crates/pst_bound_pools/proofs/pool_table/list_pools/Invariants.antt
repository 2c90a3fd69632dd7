use Rattle.std.proofs.Common.{◌≡◌, ◌++◌, drop}
use Rattle.std.specs.List.{flat_map, enumerate_from}
use Rattle.pst_bound_pools.specs.Pools.{pools_at, pools}
use Rattle.pst_bound_pools.specs.ListedPools.{view_pools}
use Rattle.pst_bound_pools.proofs.pool_table.list_pools.Given as goal

abbrev pub invariant-loop-at : goal.invariant-loop-at
invariant-loop-at l = view_pools l.found.items ++ flat_map (pools_at l.index) (enumerate_from l.at (drop l.at l.instances)) ≡ pools l.index l.instances
