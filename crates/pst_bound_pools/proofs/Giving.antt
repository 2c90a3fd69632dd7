-- What binds give to keys, one instance after another.
use Rattle.std.proofs.Common.{◌≡◌, ◌≤◌, arith, refl, sym, ap, ◌∙◌, append_assoc, cond}
use Rattle.std.specs.Prelude.{ℕ, zero, suc, ◌+◌, nat_eq, nat_lt, Bool, true, false, ◌&&◌, List, [], ◌∷◌, ◌++◌, length, slice_get, Option, Some, None, option_to_list, if◌then◌else◌}
use Rattle.std.specs.Cmp.{nat_eq_equiv}
use Rattle.std.specs.Option.{option_map_or, option_and_then}
use Rattle.std.proofs.lemmas.Bool.{eqb-true}
use Rattle.std.proofs.lemmas.Bool.Decides.{nat_tests}
use Rattle.std.proofs.lemmas.List.{append-nil}
use Rattle.pst_ast.specs.declared.instance.Instance.{Instance}
use Rattle.pst_ast.specs.declared.scope_declaration.Declaration.{Declaration}
use Rattle.pst_ast.specs.Sorts.{same_place}
use Rattle.pst_bound_pools.specs.declared.explicit_rows.TargetKey.{TargetKey}
use Rattle.pst_pool_binds.specs.PoolBinds.{ExplicitBind}
use Rattle.pst_bound_pools.specs.Pools.{component_of}
use Rattle.pst_bound_pools.specs.Serving.{stands_in, pool_bound, led_to}
use Rattle.pst_bound_pools.specs.BindRows.{target_key, same_target, names_by, given}

pub flip : (a b : ℕ) → nat_eq a b ≡ nat_eq b a
flip a b = nat_eq_equiv.symm a b

pub and_false : (b : Bool) → (b && false) ≡ false
and_false true = refl
and_false false = refl

pub either_none : (b : Bool) → ◌≡◌ {A = Option ℕ} (if b then None else None) None
either_none true = refl
either_none false = refl

-- nothing is added where nothing is given in that instance
none_by : (e : Bool) (q from : ℕ) (g : List ℕ) → nat_eq q from ≡ e → (q ≡ from → g ≡ []) → cond e g [] ≡ []
none_by true q from g is none = none (eqb-true q from is)
none_by false q from g is none = refl

pub not_added : (q from : ℕ) (g old new : List ℕ) → new ≡ old → (q ≡ from → g ≡ []) → new ≡ old ++ cond (nat_eq q from) g []
not_added q from g old new same none = same ∙ sym (ap (λ (xs : List ℕ). old ++ xs) (none_by (nat_eq q from) q from g refl none) ∙ append-nil old)

-- one instance after another
less_more : (q at : ℕ) (g : List ℕ) → cond (nat_lt q at) g [] ++ cond (nat_eq q at) g [] ≡ cond (nat_lt q (at + 1)) g []
less_more q at g = by_tests (nat_lt q at) (nat_eq q at) (nat_lt q (at + 1)) refl refl refl
  where
    by_tests : (l e m : Bool) → nat_lt q at ≡ l → nat_eq q at ≡ e → nat_lt q (at + 1) ≡ m → cond l g [] ++ cond e g [] ≡ cond m g []
    by_tests true true m a b c = absurd (grind (arith, nat_tests))
    by_tests true false true a b c = append-nil g
    by_tests true false false a b c = absurd (grind (arith, nat_tests))
    by_tests false true true a b c = refl
    by_tests false true false a b c = absurd (grind (arith, nat_tests))
    by_tests false false true a b c = absurd (grind (arith, nat_tests))
    by_tests false false false a b c = refl

pub one_more : (q at : ℕ) (g initial old new : List ℕ) → new ≡ old ++ cond (nat_eq q at) g [] → old ≡ initial ++ cond (nat_lt q at) g [] → new ≡ initial ++ cond (nat_lt q (at + 1)) g []
one_more q at g initial old new e before =
    e ∙ ap (λ (xs : List ℕ). xs ++ cond (nat_eq q at) g []) before ∙ append_assoc initial (cond (nat_lt q at) g []) (cond (nat_eq q at) g []) ∙ ap (λ (xs : List ℕ). initial ++ xs) (less_more q at g)

pub none_yet : (q : ℕ) (g initial : List ℕ) → initial ≡ initial ++ cond (nat_lt q 0) g []
none_yet q g initial = sym (ap (λ (b : Bool). initial ++ cond b g []) below ∙ append-nil initial)
  where
    below : nat_lt q 0 ≡ false
    below = grind (arith, nat_tests)

pub all_seen : (q at : ℕ) (g initial new : List ℕ) → (at ≤ q → g ≡ []) → new ≡ initial ++ cond (nat_lt q at) g [] → new ≡ initial ++ g
all_seen q at g initial new none e = e ∙ ap (λ (xs : List ℕ). initial ++ xs) (by_test (nat_lt q at) refl)
  where
    by_test : (b : Bool) → nat_lt q at ≡ b → cond b g [] ≡ g
    by_test true is = refl
    by_test false is = sym (none (grind (arith, nat_tests)))

pub beyond : {A : Type 0} (xs : List A) (i : ℕ) → length xs ≤ i → slice_get xs i ≡ None
beyond [] i far = refl
beyond (x ∷ xs) zero far = absurd (omega (arith, far))
beyond (x ∷ xs) (suc i) far = beyond xs i (omega (arith, far))

pub some_or_none : (t : Bool) (pool : ℕ) → option_to_list (if t then Some pool else None) ≡ cond t (pool ∷ []) []
some_or_none true pool = refl
some_or_none false pool = refl

module _ (ds : List Declaration) (instances : List Instance) (b : ExplicitBind) (q : TargetKey) where
  pub no_stand : (n : ℕ) → stands_in ds instances b.component n ≡ false → q.from ≡ n → given ds instances q b ≡ []
  no_stand n h e = ap (λ (s : Bool). option_to_list (if s && names_by instances q b then pool_bound ds instances b.component b.pool q.from else None)) (ap (stands_in ds instances b.component) e ∙ h)

  pub no_way : (n : ℕ) → led_to instances n b.instances ≡ None → q.from ≡ n → given ds instances q b ≡ []
  no_way n h e =
      ap (λ (o : Option ℕ). option_to_list (if stands_in ds instances b.component q.from && (option_map_or (nat_eq q.to) o false && (nat_eq b.action.id.0 q.action && nat_eq b.need.id.0 q.need)) then pool_bound ds instances b.component b.pool q.from else None))
      (ap (λ (m : ℕ). led_to instances m b.instances) e ∙ h)
      ∙ ap (λ (s : Bool). option_to_list (if s then pool_bound ds instances b.component b.pool q.from else None)) (and_false (stands_in ds instances b.component q.from))

  pub no_pool : (n : ℕ) → pool_bound ds instances b.component b.pool n ≡ None → q.from ≡ n → given ds instances q b ≡ []
  no_pool n h e =
      ap (λ (o : Option ℕ). option_to_list (if stands_in ds instances b.component q.from && names_by instances q b then o else None)) (ap (pool_bound ds instances b.component b.pool) e ∙ h)
      ∙ ap option_to_list (either_none (stands_in ds instances b.component q.from && names_by instances q b))

  pub none_beyond : length instances ≤ q.from → given ds instances q b ≡ []
  none_beyond far =
      no_stand q.from (ap (λ (o : Option Instance). option_map_or (λ (c : Declaration). same_place c.name.place b.component) (option_and_then (component_of ds) o) false) (beyond instances q.from far)) refl

  module _ (from to pool : ℕ) (stands : stands_in ds instances b.component from ≡ true) (way : led_to instances from b.instances ≡ Some to) (bound : pool_bound ds instances b.component b.pool from ≡ Some pool) where
    abbrev pub key : TargetKey
    key = target_key from to b.action.id b.need.id

    -- what is given, by whether the bind stands there, where it leads and which pool it binds
    abbrev by_parts : Bool → Option ℕ → Option ℕ → List ℕ
    by_parts s way pool = option_to_list (if s && (option_map_or (nat_eq q.to) way false && (nat_eq b.action.id.0 q.action && nat_eq b.need.id.0 q.need)) then pool else None)

    turned : (nat_eq q.to to && (nat_eq b.action.id.0 q.action && nat_eq b.need.id.0 q.need)) ≡ (nat_eq q.to to && (nat_eq q.action b.action.id.0 && nat_eq q.need b.need.id.0))
    turned = λ i. nat_eq q.to to && (flip b.action.id.0 q.action i && flip b.need.id.0 q.need i)

    by_from : (e : Bool) → nat_eq q.from from ≡ e
        → cond e (given ds instances q b) [] ≡ cond (e && (nat_eq q.to to && (nat_eq q.action b.action.id.0 && nat_eq q.need b.need.id.0))) (pool ∷ []) []
    by_from false is = refl
    by_from true is =
        let same : q.from ≡ from = eqb-true q.from from is in
        let s : stands_in ds instances b.component q.from ≡ true = ap (stands_in ds instances b.component) same ∙ stands in
        let w : led_to instances q.from b.instances ≡ Some to = ap (λ (m : ℕ). led_to instances m b.instances) same ∙ way in
        let p : pool_bound ds instances b.component b.pool q.from ≡ Some pool = ap (pool_bound ds instances b.component b.pool) same ∙ bound in
        let parts : by_parts (stands_in ds instances b.component q.from) (led_to instances q.from b.instances) (pool_bound ds instances b.component b.pool q.from) ≡ by_parts true (Some to) (Some pool) =
        λ i. by_parts (s i) (w i) (p i) in
        parts
        ∙ some_or_none (nat_eq q.to to && (nat_eq b.action.id.0 q.action && nat_eq b.need.id.0 q.need)) pool
        ∙ ap (λ (t : Bool). cond t (pool ∷ []) []) turned

    pub all_given : cond (nat_eq q.from from) (given ds instances q b) [] ≡ cond (same_target q key) (pool ∷ []) []
    all_given = by_from (nat_eq q.from from) refl
