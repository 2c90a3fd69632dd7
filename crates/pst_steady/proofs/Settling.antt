-- Values that are kept one after another.
use Rattle.std.proofs.Common.{◌≡◌, ◌⊎◌, inl, inr, ℕ, ◌+◌, ◌<◌, ◌≤◌, Bool, true, false, List, [], ◌∷◌, ◌++◌, length, set, Option, refl, sym, ap, subst, ◌∙◌, arith, true≢false}
use Rattle.std.specs.Prelude.{Some, None, is_some, IsSome, slice_get, ◌↔◌}
use Rattle.std.specs.Option.{option_and_then}
use Rattle.pst_steady.specs.declared.reach.Seed.{Seed}
use Rattle.pst_steady.specs.declared.reach.Seed.TheVariants as seed
use Rattle.pst_steady.specs.Reached.{Reaches, Here, On, value_at, value_by, next_value, AreSound, IsSettled, AreReached}
use Rattle.pst_steady.proofs.Lists.{some_is, no_some, within, same_or, at_set, beside_set}

module _ (seeds : List Seed) (bases : List (Option ℕ)) where
  -- at most one value comes to a number
  one_value : (i k m : ℕ) → Reaches seeds bases i k → Reaches seeds bases i m → k ≡ m
  one_value i k m (Here a b own) (Here c d other) = own_is (some_is (sym own ∙ other))
    where
      own_is : seed.Own k ≡ seed.Own m → k ≡ m
      own_is e = cc
  one_value i k m (Here a b own) (On c j d takes led on) = absurd (apart (some_is (sym own ∙ takes)))
    where
      apart : seed.Own k ≡ seed.Inherit → ⊥
      apart e = cc
  one_value i k m (On a j b takes led on) (Here c d own) = absurd (apart (some_is (sym own ∙ takes)))
    where
      apart : seed.Own m ≡ seed.Inherit → ⊥
      apart e = cc
  one_value i k m (On a j b takes led on) (On c h d also others more) = one_value j k m on (subst (λ (n : ℕ). Reaches seeds bases n m) (sym (some_is (some_is (sym led ∙ others)))) more)

  value_there : (bs : List (Option ℕ)) (i k : ℕ) → value_at bs i ≡ Some k → slice_get bs i ≡ Some (Some k)
  value_there bs i k e = by_found (slice_get bs i) refl e
    where
      by_found : (found : Option (Option ℕ)) → slice_get bs i ≡ found → option_and_then (λ v. v) found ≡ Some k → slice_get bs i ≡ Some (Some k)
      by_found None is e = absurd (no_some e)
      by_found (Some v) is e = is ∙ ap Some e

  -- the next value comes to its number
  next_comes : (values : List (Option ℕ)) → AreSound seeds bases values → (i k : ℕ) → next_value seeds bases values i ≡ Some k → Reaches seeds bases i k
  next_comes values sound i k e = by_seed (slice_get seeds i) refl e
    where
      by_base : slice_get seeds i ≡ Some seed.Inherit → (base : Option ℕ) → value_at bases i ≡ base → option_and_then (value_at values) base ≡ Some k → Reaches seeds bases i k
      by_base takes None led e = absurd (no_some e)
      by_base takes (Some j) led e = On i j k takes (value_there bases i j led) (sound j k e)

      by_seed : (s : Option Seed) → slice_get seeds i ≡ s → value_by bases values i s ≡ Some k → Reaches seeds bases i k
      by_seed None is e = absurd (no_some e)
      by_seed (Some (seed.Own m)) is e = Here i k (is ∙ ap (λ (n : ℕ). Some (seed.Own n)) (some_is e))
      by_seed (Some seed.Stop) is e = absurd (no_some e)
      by_seed (Some seed.Inherit) is e = by_base is (value_at bases i) refl e

  pub set_sound : (values : List (Option ℕ)) (i v : ℕ) → i < length values → AreSound seeds bases values → next_value seeds bases values i ≡ Some v → AreSound seeds bases (set values i (Some v))
  set_sound values i v l sound next n k e = elim (same_or n i) [
    | inl same ↦
        let at : Some v ≡ Some k = sym (ap (option_and_then (λ (o : Option ℕ). o)) (at_set values i (Some v) l)) ∙ subst (λ (m : ℕ). value_at (set values i (Some v)) m ≡ Some k) same e in
        subst (λ (m : ℕ). Reaches seeds bases m k) (sym same) (subst (λ (m : ℕ). Reaches seeds bases i m) (some_is at) (next_comes values sound i v next))
    | inr apart ↦ sound n k (sym (ap (option_and_then (λ (o : Option ℕ). o)) (beside_set values i n (Some v) apart)) ∙ e)
  ]

  pub settled_kept : (values : List (Option ℕ)) (i : ℕ) → IsSome (value_at values i) → IsSettled seeds bases values i
  settled_kept values i is k e = is

  pub settled_none : (values : List (Option ℕ)) (i : ℕ) → next_value seeds bases values i ≡ None → IsSettled seeds bases values i
  settled_none values i none k e = absurd (no_some (sym none ∙ e))

  some_there : (o : Option ℕ) → IsSome o → (k : ℕ) × (o ≡ Some k)
  some_there None is = absurd (true≢false (sym is))
  some_there (Some k) is = (k, refl)

  comes_kept : (values : List (Option ℕ)) → AreSound seeds bases values → ((i : ℕ) → IsSettled seeds bases values i) → (i k : ℕ) → Reaches seeds bases i k → value_at values i ≡ Some k
  comes_kept values sound settled i k (Here a b own) =
      let is = some_there (value_at values i) (settled i k (ap (value_by bases values i) own)) in
      is.1 ∙ ap Some (one_value i is.0 k (sound i is.0 is.1) (Here i k own))
  comes_kept values sound settled i k (On a j b takes led on) =
      let kept = comes_kept values sound settled j k on in
      let next : next_value seeds bases values i ≡ Some k =
      ap (value_by bases values i) takes ∙ (ap (λ (o : Option (Option ℕ)). option_and_then (value_at values) (option_and_then (λ (v : Option ℕ). v) o)) led ∙ kept) in
      let is = some_there (value_at values i) (settled i k next) in
      is.1 ∙ ap Some (one_value i is.0 k (sound i is.0 is.1) (On i j k takes led on))

  next_within : (values : List (Option ℕ)) (i k : ℕ) → next_value seeds bases values i ≡ Some k → i < length seeds
  next_within values i k e = by_seed (slice_get seeds i) refl e
    where
      by_seed : (s : Option Seed) → slice_get seeds i ≡ s → value_by bases values i s ≡ Some k → i < length seeds
      by_seed None is e = absurd (no_some e)
      by_seed (Some s) is e = within seeds i s is

  pub are_reached : (values : List (Option ℕ)) → length values ≡ length seeds → AreSound seeds bases values → ((i : ℕ) → i < length values → IsSettled seeds bases values i) → AreReached seeds bases values
  are_reached values long sound settled i k =
      (sound i k, comes_kept values sound (λ n m e. settled n (subst (λ (x : ℕ). n < x) (sym long) (next_within values n m e)) m e) i k)

  pub none_sound : (values : List (Option ℕ)) → ((i : ℕ) → value_at values i ≡ None) → AreSound seeds bases values
  none_sound values none i k e = absurd (no_some (sym (none i) ∙ e))
