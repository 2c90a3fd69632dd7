-- Of a sound model, pools of claims have few instances.
use Rattle.std.proofs.Common.{◌≡◌, ℕ, ◌-◌, ◌≤◌, pos, [], ◌∷◌, Bool, true, false, nat_eq, if◌then◌else◌, Option, Some, None, refl, arith}
use Rattle.std.specs.Prelude.{slice_get}
use Rattle.std.specs.Option.{option_and_then}
use Rattle.std.proofs.lemmas.Int.{ints}
use Rattle.pst_domain.specs.Bounds.{IsInside}
use Rattle.pst_model.specs.declared.model.Pool.{Pool}
use Rattle.pst_model.specs.ModelTree.{ModelTree}
use Rattle.pst_model.specs.Sound.{IsSoundPool, IsSound}
use Rattle.pst_legal.specs.Types.{served_claim}
use Rattle.pst_legal.specs.Blanks.{instances_in}
use Rattle.pst_legal.specs.Standing.{hull}
use Rattle.pst_built.proofs.SoundActs.{all_get}
use Rattle.pst_built.proofs.Unread.{PoolsAreSmall}

pub pools_are_small : (m : ModelTree) → IsSound m → PoolsAreSmall m
pools_are_small m sound action instance claim = by_served (served_claim m action instance claim)
  where
    sized : (pool : Pool) → IsSoundPool m pool → (b : Bool) → IsInside (hull (if b then [] else record { low = pos 0; high = pos (pool.size - 1) } ∷ [])) (Some (record { low = pos 0; high = pos 1023 }))
    sized pool is true = tt
    sized pool is false = (omega (arith, ints, is.most), let few : pool.size ≤ 1024 = is.most in omega (arith, ints, few))

    by_pool : (p : ℕ) (o : Option Pool) → slice_get m.pools p ≡ o → IsInside (hull (instances_in o)) (Some (record { low = pos 0; high = pos 1023 }))
    by_pool p None is = tt
    by_pool p (Some pool) is = sized pool (all_get (IsSoundPool m) m.pools p pool sound.pools is) (nat_eq pool.size 0)

    by_served : (o : Option ℕ) → IsInside (hull (instances_in (option_and_then (λ pool. slice_get m.pools pool) o))) (Some (record { low = pos 0; high = pos 1023 }))
    by_served None = tt
    by_served (Some p) = by_pool p (slice_get m.pools p) refl
