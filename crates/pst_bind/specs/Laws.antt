-- Laws of the definitions.
use Rattle.std.specs.Prelude.{◌≡◌, ℕ, List, Some}
use Rattle.std.specs.List.{Contains}
use Rattle.pst_base.specs.declared.position.Place.{Place}
use Rattle.pst_ast.specs.declared.instance.Instance.{Instance}
use Rattle.pst_ast.specs.DeclarationTree.{UnitTree}
use Rattle.pst_ast.specs.Breaches.{IsLeast, IsNone}
use Rattle.pst_bind.specs.declared.pool_map.PoolPlace.{PoolPlace}
use Rattle.pst_bind.specs.declared.pool_map.Served.{Served}
use Rattle.pst_bound_pools.specs.Serving.{serving_pool}
use Rattle.pst_bind.specs.Needs.{Need, needs}
use Rattle.pst_bind.specs.PoolRules.{PoolBreach, IsPoolMap}

-- of the breaches of the rules of pools at most one is the least
abbrev pub PoolBreachesHaveOneLeast : Type 0
PoolBreachesHaveOneLeast =
    (units : List UnitTree) (instances : List Instance) (p q : Place) (r s : ℕ)
    → IsLeast (PoolBreach units instances) p r → IsLeast (PoolBreach units instances) q s → (p ≡ q) × (r ≡ s)

-- instances have at most one list of pools, and one of what they serve
abbrev pub PoolMapsAreOne : Type 0
PoolMapsAreOne =
    (units : List UnitTree) (instances : List Instance) (pools others : List PoolPlace) (serves more : List Served)
    → IsPoolMap units instances pools serves → IsPoolMap units instances others more → (pools ≡ others) × (serves ≡ more)

-- where no rule of pools is broken, one pool serves each reference and claim
abbrev pub NeedsAreServed : Type 0
NeedsAreServed =
    (units : List UnitTree) (instances : List Instance) (n : Need) → IsNone (PoolBreach units instances) → Contains (needs units instances) n
    → (pool : ℕ) × (serving_pool units instances n.action n.need n.instance ≡ Some pool)
