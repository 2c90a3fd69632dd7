-- The rules of pools: what breaks each of them, and where. The numbers of the rules are this project's own.
use Rattle.std.specs.Prelude.{◌≡◌, ◌≢◌, ℕ, List, []}
use Rattle.std.specs.List.{Contains}
use Rattle.pst_base.specs.declared.position.Place.{Place}
use Rattle.pst_ast.specs.declared.instance.Instance.{Instance}
use Rattle.pst_ast.specs.DeclarationTree.{UnitTree}
use Rattle.pst_ast.specs.Declarations.{declarations}
use Rattle.pst_bind.specs.declared.pool_map.PoolPlace.{PoolPlace}
use Rattle.pst_bind.specs.declared.pool_map.Served.{Served}
use Rattle.pst_bind.specs.Pools.{pool_places}
use Rattle.pst_bind.specs.Needs.{Need, needs, candidates_for, served}

-- The sources, whose instances these are, break the rule at the place.
pub data PoolBreach (units : List UnitTree) (instances : List Instance) : Place → ℕ → Type 0 where
  -- a reference or claim of an atomic action that isn't abstract has no pool in an instance of its component: its name
  NoPool : (n : Need) → Contains (needs units instances) n → candidates_for units instances n ≡ [] → PoolBreach units instances n.need.name.place 22
  -- it has two pools at one level: its name
  TwoPools : (n : Need) (p q : ℕ) → Contains (needs units instances) n → Contains (candidates_for units instances n) p → Contains (candidates_for units instances n) q → p ≢ q
      → PoolBreach units instances n.need.name.place 23

-- The pools by instance and declaration, and what serves each reference and claim, by action, instance and reference.
pub record IsPoolMap (units : List UnitTree) (instances : List Instance) (pools : List PoolPlace) (serves : List Served) : Type 0 where
  pub are_pools : pools ≡ pool_places (declarations units) instances
  pub are_served : serves ≡ served units instances
