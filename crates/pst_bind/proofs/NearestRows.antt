-- The candidates of a reference or claim are found by the rows of binds.
use Rattle.std.proofs.Common.{◌≡◌, arith, refl, sym, ap, ◌∙◌}
use Rattle.std.specs.Prelude.{ℕ, Bool, true, false, option_to_list, ◌&&◌, List, [], ◌∷◌, ◌++◌, map, length, Option, Some, None, if◌then◌else◌}
use Rattle.std.specs.List.{flat_map, filter_map, cons_option}
use Rattle.std.specs.Option.{option_map, option_map_or, option_and_then}
use Rattle.pst_ast.specs.declared.instance.Instance.{Instance}
use Rattle.pst_ast.specs.DeclarationTree.{UnitTree}
use Rattle.pst_ast.specs.declared.scope_declaration.Declaration.{Declaration}
use Rattle.pst_ast.specs.Declarations.{declarations}
use Rattle.pst_ast.specs.Sorts.{is_pool, same_place}
use Rattle.pst_ast.specs.Lookups.{type_of}
use Rattle.pst_ast.specs.NameRules.{named_in}
use Rattle.pst_bound_pools.specs.declared.explicit_rows.ExplicitRows.{ExplicitRows}
use Rattle.pst_bound_pools.specs.declared.default_rows.DefaultRows.{DefaultRows}
use Rattle.pst_pool_binds.specs.PoolBinds.{DefaultBind, explicit_binds, default_binds}
use Rattle.pst_bound_pools.specs.Serving.{first_filled, stands_in, pool_bound, is_same, explicit_in, default_in, with_those_above, candidates}
use Rattle.pst_bound_pools.specs.BindRows.{target_key, object_key, pool_given, pool_by_default}
use Rattle.pst_bound_pools.specs.KeptBinds.{AreExplicitRows, AreDefaultRows}
use Rattle.pst_bind.specs.Nearest.{explicit_row, default_row, default_row_of, candidates_by}

and_false : (b : Bool) → (b && false) ≡ false
and_false true = refl
and_false false = refl

-- ---- lists of binds

first_given : (o : Option ℕ) (rest others : List ℕ) → rest ≡ others → option_to_list o ++ rest ≡ cons_option o others
first_given None rest others e = e
first_given (Some y) rest others e = ap (λ (ys : List ℕ). y ∷ ys) e

given_by : {A : Type 0} (f : A → Option ℕ) (xs : List A) → flat_map (λ x. option_to_list (f x)) xs ≡ filter_map f xs
given_by f [] = refl
given_by f (x ∷ xs) = first_given (f x) (flat_map (λ y. option_to_list (f y)) xs) (filter_map f xs) (given_by f xs)

-- ---- the first that is filled

pub no_items : (xs : List ℕ) → length xs ≡ 0 → xs ≡ []
no_items [] e = refl
no_items (x ∷ xs) e = absurd (omega (arith, e))

pub none_filled : (xs ys : List (List ℕ)) → first_filled xs ≡ [] → first_filled (xs ++ ys) ≡ first_filled ys
none_filled [] ys e = refl
none_filled ([] ∷ more) ys e = none_filled more ys e
none_filled ((p ∷ ps) ∷ more) ys e = absurd (not_empty e)
  where
    not_empty : p ∷ ps ≡ [] → ⊥
    not_empty f = cc

pub one_filled : (xs ys : List (List ℕ)) → (first_filled xs ≡ [] → ⊥) → first_filled (xs ++ ys) ≡ first_filled xs
one_filled [] ys e = absurd (e refl)
one_filled ([] ∷ more) ys e = one_filled more ys e
one_filled ((p ∷ ps) ∷ more) ys e = refl

abbrev pub no_row : ℕ → List ℕ
no_row from = []

pub without_rows : (above : List ℕ) → first_filled (map no_row above) ≡ []
without_rows [] = refl
without_rows (x ∷ above) = without_rows above

-- ---- rows as lists of what the binds give

same_map : (f g : ℕ → List ℕ) → ((x : ℕ) → f x ≡ g x) → (xs : List ℕ) → map f xs ≡ map g xs
same_map f g h [] = refl
same_map f g h (x ∷ xs) = λ i. h x i ∷ same_map f g h xs i

same_filter : {A : Type 0} (f g : A → Option ℕ) → ((x : A) → f x ≡ g x) → (xs : List A) → filter_map f xs ≡ filter_map g xs
same_filter f g h [] = refl
same_filter f g h (x ∷ xs) = λ i. cons_option (h x i) (same_filter f g h xs i)

none_filtered : {A : Type 0} (f : A → Option ℕ) → ((x : A) → f x ≡ None) → (xs : List A) → filter_map f xs ≡ []
none_filtered f h [] = refl
none_filtered f h (x ∷ xs) = λ i. cons_option (h x i) (none_filtered f h xs i)

module _ (units : List UnitTree) (instances : List Instance) (explicit : ExplicitRows) (defaults : DefaultRows) (are : AreExplicitRows (declarations units) instances (explicit_binds units) explicit)
    (are_defaults : AreDefaultRows (declarations units) instances (default_binds units) defaults) where
  abbrev ds : List Declaration
  ds = declarations units

  explicit_rows : (action need : Declaration) (instance from : ℕ) → explicit_row explicit instance action.name.id need.name.id from ≡ explicit_in units instances action need instance from
  explicit_rows action need instance from =
      let q = target_key from instance action.name.id need.name.id in
      are q ∙ given_by (pool_given ds instances q) (explicit_binds units)

  abbrev bound_type : DefaultBind → Option Declaration
  bound_type b = option_and_then (type_of ds) (named_in ds b.component is_pool b.pool)

  abbrev default_by : Option Declaration → ℕ → DefaultBind → Option ℕ
  default_by type from b = if stands_in ds instances b.component from && is_same (bound_type b) type then pool_bound ds instances b.component b.pool from else None

  same_type : (o : Option Declaration) (t : Declaration) → option_map_or (λ p. same_place p t.name.place) (option_map (λ x. x.name.place) o) false ≡ is_same o (Some t)
  same_type None t = refl
  same_type (Some x) t = refl

  no_type : (o : Option Declaration) → is_same o None ≡ false
  no_type None = refl
  no_type (Some x) = refl

  default_rows : (from : ℕ) (type : Option Declaration) → option_map_or (λ (t : Declaration). default_row defaults t.name.place from) type [] ≡ filter_map (default_by type from) (default_binds units)
  default_rows from None =
      sym (none_filtered (default_by None from)
      (λ b. ap (λ (s : Bool). if stands_in ds instances b.component from && s then pool_bound ds instances b.component b.pool from else None) (no_type (bound_type b))
      ∙ ap (λ (s : Bool). if s then pool_bound ds instances b.component b.pool from else None) (and_false (stands_in ds instances b.component from))) (default_binds units))
  default_rows from (Some t) =
      let q = object_key from t.name.place in
      are_defaults q ∙ given_by (pool_by_default ds instances q) (default_binds units)
      ∙ same_filter (pool_by_default ds instances q) (default_by (Some t) from)
      (λ b. ap (λ (s : Bool). if stands_in ds instances b.component from && s then pool_bound ds instances b.component b.pool from else None) (same_type (bound_type b) t)) (default_binds units)

  pub candidates_are : (action need : Declaration) (instance : ℕ) → candidates_by ds explicit defaults (with_those_above instances instance) instance action need ≡ candidates units instances action need instance
  candidates_are action need instance =
      let above = with_those_above instances instance in
      let e : map (explicit_row explicit instance action.name.id need.name.id) above ≡ map (explicit_in units instances action need instance) above =
      same_map (explicit_row explicit instance action.name.id need.name.id) (explicit_in units instances action need instance) (explicit_rows action need instance) above in
      let d : map (default_row_of ds defaults need) above ≡ map (default_in units instances need) above =
      same_map (default_row_of ds defaults need) (default_in units instances need) (λ from. default_rows from (type_of ds need)) above in
      λ i. first_filled (e i ++ d i)
