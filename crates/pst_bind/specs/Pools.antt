-- The pools of the component instances, each with its name.
use Rattle.std.specs.Prelude.{ℕ, List, map}
use Rattle.pst_ast.specs.declared.instance.Instance.{Instance}
use Rattle.pst_ast.specs.declared.scope_declaration.Declaration.{Declaration}
use Rattle.pst_bind.specs.declared.pool_map.PoolPlace.{PoolPlace}
pub use Rattle.pst_bound_pools.specs.Pools.{component_of, component_at, pools_in, pools_at, pools, pool_number}

abbrev pub place_of : ℕ × Declaration → PoolPlace
place_of x = record { instance = x.0; name = x.1.name.id }

-- the instance and the name of each pool
abbrev pub pool_places : List Declaration → List Instance → List PoolPlace
pool_places ds instances = map place_of (pools ds instances)
