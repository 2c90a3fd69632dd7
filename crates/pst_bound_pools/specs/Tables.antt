-- How tables are kept.
use Rattle.std.specs.Prelude.{◌≡◌}
use Rattle.std.specs.List.{position_from}
use Rattle.std.specs.HashMap.{get}
use Rattle.pst_bound_pools.specs.declared.instance_table.ChildKey.{ChildKey}
use Rattle.pst_bound_pools.specs.declared.instance_table.InstanceTable.TheInside.{Inside}
use Rattle.pst_bound_pools.specs.declared.pool_table.PoolKey.{PoolKey}
use Rattle.pst_bound_pools.specs.declared.pool_table.PoolTable.TheInside.{Inside as PoolInside}
use Rattle.pst_bound_pools.specs.Children.{is_child, same_child}
use Rattle.pst_bound_pools.specs.ListedPools.{is_pool_at, same_pool, view_pools}

-- each key has the number of the first instance of it
pub record IsInstanceTable (table : Inside) : Type 0 where
  pub children : (q : ChildKey) → get same_child table.children q ≡ position_from (is_child q) 0 table.instances.items

-- each key has the number of the first pool of it
pub record IsPoolTable (table : PoolInside) : Type 0 where
  pub numbers : (q : PoolKey) → get same_pool table.numbers q ≡ position_from (is_pool_at q) 0 (view_pools table.pools.items)
