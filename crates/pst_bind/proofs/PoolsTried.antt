-- Facts about pools in small sources.
use Rattle.std.proofs.Common.{◌≡◌, refl, arith}
use Rattle.std.specs.Prelude.{[], ◌∷◌, ◌++◌}
use Rattle.pst_ast.specs.Declarations.{declarations}
use Rattle.pst_ast.specs.Lookups.{look_up, declared_at, base_of, member_of, type_of}
use Rattle.pst_type_rules.specs.Sites.{action_at}
use Rattle.pst_tree.specs.Bases.{with_bases}
use Rattle.pst_tree.specs.Instances.{AreInstances}
use Rattle.pst_tree.specs.Tried.{on}
use Rattle.pst_tree.proofs.Found.{instances_found}
use Rattle.pst_bind.specs.Pools.{pool_places}
use Rattle.pst_bound_pools.specs.Serving.{candidates}
use Rattle.pst_bind.specs.Needs.{served}
use Rattle.pst_bind.specs.PoolRules.{PoolBreach, NoPool, TwoPools}
use Rattle.pst_bind.specs.Tried.{three, names, instances, place, serve, derived, its_output, with_pools, first_pool, second_pool, one}

pub are : AreInstances three names instances
unfolding look_up declared_at type_of
are = instances_found 4 _ _ _ refl

pub pools : pool_places (declarations three) instances ≡ place 0 17 ∷ place 0 18 ∷ place 1 13 ∷ place 1 14 ∷ place 2 4 ∷ place 3 4 ∷ place 4 4 ∷ []
unfolding look_up
pools = refl

pub serves : served three instances
    ≡ serve 0 2 0 2 ∷ serve 0 3 0 5 ∷ serve 0 4 0 6 ∷ serve 1 2 0 0 ∷ serve 1 3 0 2 ∷ serve 1 4 0 6 ∷ serve 2 2 0 3 ∷ serve 2 3 0 3 ∷ serve 2 4 0 1 ∷ []
unfolding look_up declared_at base_of member_of type_of action_at with_bases
serves = refl

pub twice : candidates three instances derived its_output 2 ≡ 0 ∷ 0 ∷ []
unfolding look_up declared_at base_of member_of type_of action_at with_bases
twice = refl

pub one_pool : served (with_pools first_pool) one ≡ serve 0 0 0 0 ∷ serve 1 0 0 0 ∷ []
unfolding look_up declared_at base_of member_of type_of action_at with_bases
one_pool = refl

pub no_pool : PoolBreach (with_pools []) one (on 5 25) 22
unfolding look_up declared_at base_of member_of type_of action_at with_bases
no_pool = NoPool _ (0, omega arith, refl) refl

pub two_pools : PoolBreach (with_pools (first_pool ++ second_pool)) one (on 5 25) 23
unfolding look_up declared_at base_of member_of type_of action_at with_bases
two_pools = TwoPools _ 0 1 (0, omega arith, refl) (0, omega arith, refl) (1, omega arith, refl) (λ e. omega (arith, e))
