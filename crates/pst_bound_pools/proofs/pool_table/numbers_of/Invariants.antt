use Rattle.std.proofs.Common.{◌≡◌, drop}
use Rattle.std.specs.List.{position_from}
use Rattle.std.specs.Option.{option_or}
use Rattle.std.specs.HashMap.{get}
use Rattle.pst_bound_pools.specs.declared.pool_table.PoolKey.{PoolKey}
use Rattle.pst_bound_pools.specs.ListedPools.{is_pool_at, same_pool, view_pools}
use Rattle.pst_bound_pools.proofs.pool_table.numbers_of.Given as goal

abbrev pub invariant-loop-at : goal.invariant-loop-at
invariant-loop-at l = (q : PoolKey) → option_or (get same_pool l.numbers q) (position_from (is_pool_at q) l.at (view_pools (drop l.at l.pools))) ≡ position_from (is_pool_at q) 0 (view_pools l.pools)
