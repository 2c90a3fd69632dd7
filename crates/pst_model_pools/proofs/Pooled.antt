-- The pools of an instance.
use Rattle.std.proofs.Common.{◌≡◌, ℕ, map, Bool, true, false, ◌&&◌, List, [], ◌∷◌, refl, sym, ap, ◌∙◌}
use Rattle.std.specs.Prelude.{Option, Some, None, if◌then◌else◌}
use Rattle.std.specs.List.{filter}
use Rattle.std.specs.Option.{option_map_or}
use Rattle.pst_ast.specs.declared.instance.Instance.{Instance}
use Rattle.pst_bind.specs.Pools.{component_of, pools_at, pools_in}
use Rattle.pst_elab_rules.specs.Model.{model_pool}
use Rattle.pst_model.specs.declared.model.Pool.{Pool}
use Rattle.pst_model_pools.specs.Rows.{row_pools}
use Rattle.pst_ast.specs.declared.scope_declaration.Declaration.{Declaration}
use Rattle.pst_ast.specs.declared.scope_declaration.Scope.TheVariants.{Part}
use Rattle.pst_ast.specs.Sorts.{is_pool, same_scope}
use Rattle.pst_terms.specs.Sources.{Sources}
use Rattle.pst_type_rules.specs.Members.{own_members, those_that}

module _ {A : Type 0} (p q : A → Bool) where
  twice_if : (b c : Bool) (x : A) (some more : List A) → p x ≡ b → some ≡ filter p more
      → (if b && c then x ∷ some else some) ≡ filter p (if c then x ∷ more else more)
  twice_if true true x some more is rest = ap (λ (l : List A). x ∷ l) rest ∙ sym (ap (λ (d : Bool). if d then x ∷ filter p more else filter p more) is)
  twice_if true false x some more is rest = rest
  twice_if false true x some more is rest = rest ∙ sym (ap (λ (d : Bool). if d then x ∷ filter p more else filter p more) is)
  twice_if false false x some more is rest = rest

  pub filter_twice : (xs : List A) → filter (λ x. p x && q x) xs ≡ filter p (filter q xs)
  filter_twice [] = refl
  filter_twice (x ∷ xs) = twice_if (p x) (q x) x (filter (λ x. p x && q x) xs) (filter q xs) refl (filter_twice xs)

module _ (s : Sources) (number : ℕ) where
  in_one : (ds : List Declaration) → map (model_pool s) (map (λ (d : Declaration). (number, d)) ds) ≡ map (λ (d : Declaration). model_pool s (number, d)) ds
  in_one [] = refl
  in_one (d ∷ more) = ap (λ (l : List Pool). model_pool s (number, d) ∷ l) (in_one more)

  pools_are : (ds : List Declaration) (component : Declaration) → map (model_pool s) (map (λ (d : Declaration). (number, d)) (pools_in ds component)) ≡ row_pools s number (own_members ds component)
  pools_are ds component =
      in_one (pools_in ds component)
      ∙ ap (map (λ (d : Declaration). model_pool s (number, d))) (filter_twice (λ (d : Declaration). is_pool d.sort) (λ (d : Declaration). same_scope d.scope (Part component.name.place)) ds)

  pub instance_pools : (ds : List Declaration) (i : Instance) (component : Declaration) (row : List Declaration) → Some component ≡ component_of ds i → row ≡ own_members ds component
      → map (model_pool s) (pools_at ds (number, i)) ≡ row_pools s number row
  instance_pools ds i component row is own =
      ap (λ (o : Option Declaration). map (model_pool s) (option_map_or (λ (c : Declaration). map (λ (d : Declaration). (number, d)) (pools_in ds c)) o [])) (sym is)
      ∙ pools_are ds component
      ∙ ap (row_pools s number) (sym own)
