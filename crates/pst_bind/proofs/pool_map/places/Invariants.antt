use Rattle.std.proofs.Common.{◌≡◌, ◌++◌, drop, map}
use Rattle.pst_bound_pools.specs.ListedPools.{view_pools}
use Rattle.pst_bind.specs.Pools.{place_of}
use Rattle.pst_bind.proofs.pool_map.places.Given as goal

abbrev pub invariant-loop-pool : goal.invariant-loop-pool
invariant-loop-pool l = l.places.items ++ map place_of (view_pools (drop l.pool-index l.pools)) ≡ map place_of (view_pools l.pools)
