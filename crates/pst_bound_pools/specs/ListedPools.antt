-- Lists of the pools of instances.
use Rattle.std.specs.Prelude.{ℕ, Bool, nat_eq, ◌&&◌, List, map}
use Rattle.pst_base.specs.declared.position.Place.{Place}
use Rattle.pst_ast.specs.declared.scope_declaration.Declaration.{Declaration}
use Rattle.pst_ast.specs.Sorts.{same_place}
use Rattle.pst_bound_pools.specs.declared.pool_table.ListedPool.{ListedPool}
use Rattle.pst_bound_pools.specs.declared.pool_table.PoolKey.{PoolKey}

abbrev pub view_pool : ListedPool → ℕ × Declaration
view_pool p = (p.instance, p.declaration)

abbrev pub view_pools : List ListedPool → List (ℕ × Declaration)
view_pools pools = map view_pool pools

-- ---- keys

abbrev pub pool_key : ℕ → Declaration → PoolKey
pool_key instance d = record { instance = instance; file = d.name.place.file; line = d.name.place.line; column = d.name.place.column }

abbrev pub key_place : PoolKey → Place
key_place q = record { file = q.file; line = q.line; column = q.column }

-- whether two keys are one
abbrev pub same_pool : PoolKey → PoolKey → Bool
same_pool a b = nat_eq a.instance b.instance && (nat_eq a.file b.file && (nat_eq a.line b.line && nat_eq a.column b.column))

-- a pool is declared at that place, in that instance
abbrev pub is_pool_at : PoolKey → ℕ × Declaration → Bool
is_pool_at q x = nat_eq x.0 q.instance && same_place x.1.name.place (key_place q)
