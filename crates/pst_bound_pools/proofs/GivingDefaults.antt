-- What default binds give to keys.
use Rattle.std.proofs.Common.{◌≡◌, ◌≤◌, refl, ap, ◌∙◌, cond}
use Rattle.std.specs.Prelude.{ℕ, nat_eq, Bool, true, false, ◌&&◌, List, [], ◌∷◌, length, Option, Some, None, option_to_list, if◌then◌else◌}
use Rattle.std.specs.Option.{option_map_or, option_and_then}
use Rattle.std.proofs.lemmas.Bool.{eqb-true}
use Rattle.pst_base.specs.declared.position.Place.{Place}
use Rattle.pst_ast.specs.declared.instance.Instance.{Instance}
use Rattle.pst_ast.specs.declared.scope_declaration.Declaration.{Declaration}
use Rattle.pst_ast.specs.Sorts.{same_place}
use Rattle.pst_bound_pools.specs.declared.default_rows.ObjectKey.{ObjectKey}
use Rattle.pst_pool_binds.specs.PoolBinds.{DefaultBind}
use Rattle.pst_bound_pools.specs.Pools.{component_of}
use Rattle.pst_bound_pools.specs.Serving.{stands_in, pool_bound}
use Rattle.pst_bound_pools.specs.BindRows.{object_key, key_place, same_object, object_of, is_object, given_default}
use Rattle.pst_bound_pools.proofs.Giving.{flip, and_false, either_none, beyond, some_or_none}

module _ (ds : List Declaration) (instances : List Instance) (b : DefaultBind) (q : ObjectKey) where
  pub no_stand : (n : ℕ) → stands_in ds instances b.component n ≡ false → q.from ≡ n → given_default ds instances q b ≡ []
  no_stand n h e = ap (λ (s : Bool). option_to_list (if s && is_object ds q b then pool_bound ds instances b.component b.pool q.from else None)) (ap (stands_in ds instances b.component) e ∙ h)

  pub no_object : object_of ds b ≡ None → given_default ds instances q b ≡ []
  no_object h =
      ap (λ (o : Option Place). option_to_list (if stands_in ds instances b.component q.from && option_map_or (λ p. same_place p (key_place q)) o false then pool_bound ds instances b.component b.pool q.from else None)) h
      ∙ ap (λ (s : Bool). option_to_list (if s then pool_bound ds instances b.component b.pool q.from else None)) (and_false (stands_in ds instances b.component q.from))

  pub no_pool : (n : ℕ) → pool_bound ds instances b.component b.pool n ≡ None → q.from ≡ n → given_default ds instances q b ≡ []
  no_pool n h e =
      ap (λ (o : Option ℕ). option_to_list (if stands_in ds instances b.component q.from && is_object ds q b then o else None)) (ap (pool_bound ds instances b.component b.pool) e ∙ h)
      ∙ ap option_to_list (either_none (stands_in ds instances b.component q.from && is_object ds q b))

  pub none_beyond : length instances ≤ q.from → given_default ds instances q b ≡ []
  none_beyond far =
      no_stand q.from (ap (λ (o : Option Instance). option_map_or (λ (c : Declaration). same_place c.name.place b.component) (option_and_then (component_of ds) o) false) (beyond instances q.from far)) refl

  module _ (from pool : ℕ) (place : Place) (stands : stands_in ds instances b.component from ≡ true) (object : object_of ds b ≡ Some place) (bound : pool_bound ds instances b.component b.pool from ≡ Some pool) where
    abbrev pub key : ObjectKey
    key = object_key from place

    -- what is given, by whether the bind stands there, its object type and the pool that it binds
    abbrev by_parts : Bool → Option Place → Option ℕ → List ℕ
    by_parts s o pool = option_to_list (if s && option_map_or (λ p. same_place p (key_place q)) o false then pool else None)

    turned : same_place place (key_place q) ≡ (nat_eq q.file place.file && (nat_eq q.line place.line && nat_eq q.column place.column))
    turned = λ i. flip place.file q.file i && (flip place.line q.line i && flip place.column q.column i)

    by_from : (e : Bool) → nat_eq q.from from ≡ e → cond e (given_default ds instances q b) [] ≡ cond (e && (nat_eq q.file place.file && (nat_eq q.line place.line && nat_eq q.column place.column))) (pool ∷ []) []
    by_from false is = refl
    by_from true is =
        let same : q.from ≡ from = eqb-true q.from from is in
        let s : stands_in ds instances b.component q.from ≡ true = ap (stands_in ds instances b.component) same ∙ stands in
        let p : pool_bound ds instances b.component b.pool q.from ≡ Some pool = ap (pool_bound ds instances b.component b.pool) same ∙ bound in
        let parts : by_parts (stands_in ds instances b.component q.from) (object_of ds b) (pool_bound ds instances b.component b.pool q.from) ≡ by_parts true (Some place) (Some pool) =
        λ i. by_parts (s i) (object i) (p i) in
        parts ∙ some_or_none (same_place place (key_place q)) pool ∙ ap (λ (t : Bool). cond t (pool ∷ []) []) turned

    pub all_given : cond (nat_eq q.from from) (given_default ds instances q b) [] ≡ cond (same_object q key) (pool ∷ []) []
    all_given = by_from (nat_eq q.from from) refl
