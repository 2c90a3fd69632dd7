-- Which blanks there are depends on nothing that claims and values change.
use Rattle.std.proofs.Common.{◌≡◌, ℕ, suc, ◌+◌, List, [], ◌∷◌, ◌++◌, length, map, Bool, cond, ◌&&◌, ◌||◌, nat_eq, if◌then◌else◌, refl, ap, ap₂}
use Rattle.std.specs.Prelude.{flat_map}
use Rattle.std.specs.List.{enumerate_from, filter, list_any, range_with_len}
use Rattle.pst_model.specs.ModelTree.{ModelTree}
use Rattle.pst_scen.specs.declared.act.Act.{Act}
use Rattle.pst_scen.specs.declared.act.Filled.{Filled}
use Rattle.pst_scen.specs.declared.scenario.Scenario.{Scenario}
use Rattle.pst_legal.specs.Types.{type_of, pool_object, is_state_pool, is_output}
use Rattle.pst_legal.specs.Blanks.{Instance, OfAct, OfOutput, places, fields_of, claims_of, act_fields, instance_blanks, refers_to, used_state_pools, first_blanks, output_blanks, resource_blanks, act_blanks, value_blanks}
use Rattle.pst_built.specs.Onward.{Row}
use Rattle.pst_few_places.specs.Fillings.{all_blanks}
use Rattle.pst_blank_values.specs.Values.{IsSameReference, IsSameAct, IsSameButValues}

filter_same : (one other : ℕ → Bool) → ((n : ℕ) → one n ≡ other n) → (ns : List ℕ) → filter one ns ≡ filter other ns
filter_same one other each [] = refl
filter_same one other each (n ∷ ns) = ap₂ (λ b more. cond b (n ∷ more) more) (each n) (filter_same one other each ns)

module _ (m : ModelTree) where
  -- ---- claims

  claims_from : (k : ℕ) (xs ys : List Act) → Row IsSameAct xs ys → flat_map (instance_blanks m) (enumerate_from k ys) ≡ flat_map (instance_blanks m) (enumerate_from k xs)
  claims_from k [] [] rows = refl
  claims_from k [] (y ∷ ys) rows = absurd (rows 0)
  claims_from k (x ∷ xs) [] rows = absurd (rows 0)
  claims_from k (x ∷ xs) (y ∷ ys) rows =
      ap₂ (λ a more. map (Instance k) (places (claims_of (type_of m a))) ++ more) (rows 0).action (claims_from (k + 1) xs ys (λ i. rows (suc i)))

  -- ---- first objects

  any_filled : (pool : ℕ) (xs ys : List Filled) → Row IsSameReference xs ys → list_any (λ (f : Filled). nat_eq f.pool pool) ys ≡ list_any (λ (f : Filled). nat_eq f.pool pool) xs
  any_filled pool [] [] rows = refl
  any_filled pool [] (y ∷ ys) rows = absurd (rows 0)
  any_filled pool (x ∷ xs) [] rows = absurd (rows 0)
  any_filled pool (x ∷ xs) (y ∷ ys) rows = ap₂ (λ p more. nat_eq p pool || more) (rows 0).pool (any_filled pool xs ys (λ i. rows (suc i)))

  any_act : (pool : ℕ) (xs ys : List Act) → Row IsSameAct xs ys → list_any (refers_to pool) ys ≡ list_any (refers_to pool) xs
  any_act pool [] [] rows = refl
  any_act pool [] (y ∷ ys) rows = absurd (rows 0)
  any_act pool (x ∷ xs) [] rows = absurd (rows 0)
  any_act pool (x ∷ xs) (y ∷ ys) rows = ap₂ (λ here more. here || more) (any_filled pool x.references y.references (rows 0).references) (any_act pool xs ys (λ i. rows (suc i)))

  pools_same : (xs ys : List Act) → Row IsSameAct xs ys → used_state_pools m ys ≡ used_state_pools m xs
  pools_same xs ys rows =
      filter_same (λ pool. is_state_pool m pool && list_any (refers_to pool) ys) (λ pool. is_state_pool m pool && list_any (refers_to pool) xs)
      (λ pool. ap (λ b. is_state_pool m pool && b) (any_act pool xs ys rows)) (range_with_len 0 (length m.pools))

  -- ---- actions

  outputs_from : (a k : ℕ) (xs ys : List Filled) → Row IsSameReference xs ys → flat_map (output_blanks m a) (enumerate_from k ys) ≡ flat_map (output_blanks m a) (enumerate_from k xs)
  outputs_from a k [] [] rows = refl
  outputs_from a k [] (y ∷ ys) rows = absurd (rows 0)
  outputs_from a k (x ∷ xs) [] rows = absurd (rows 0)
  outputs_from a k (x ∷ xs) (y ∷ ys) rows =
      ap₂ (λ here more. here ++ more)
      (ap₂ (λ flow pool. if is_output flow then map (OfOutput a k) (places (fields_of (pool_object m pool))) else []) (rows 0).flow (rows 0).pool)
      (outputs_from a (k + 1) xs ys (λ i. rows (suc i)))

  act_same : (k : ℕ) (x y : Act) → IsSameAct x y → act_blanks m (k, y) ≡ act_blanks m (k, x)
  act_same k x y same =
      ap₂ (λ action outputs. map (OfAct k) (places (act_fields (type_of m action))) ++ (outputs ++ flat_map (resource_blanks m k) (enumerate_from 0 (claims_of (type_of m action)))))
      same.action (outputs_from k 0 x.references y.references same.references)

  acts_from : (k : ℕ) (xs ys : List Act) → Row IsSameAct xs ys → flat_map (act_blanks m) (enumerate_from k ys) ≡ flat_map (act_blanks m) (enumerate_from k xs)
  acts_from k [] [] rows = refl
  acts_from k [] (y ∷ ys) rows = absurd (rows 0)
  acts_from k (x ∷ xs) [] rows = absurd (rows 0)
  acts_from k (x ∷ xs) (y ∷ ys) rows = ap₂ (λ here more. here ++ more) (act_same k x y (rows 0)) (acts_from (k + 1) xs ys (λ i. rows (suc i)))

  -- ---- all

  values_same : (xs ys : List Act) → Row IsSameAct xs ys → value_blanks m ys ≡ value_blanks m xs
  values_same xs ys rows = ap₂ (λ pools acts. flat_map (first_blanks m) pools ++ acts) (pools_same xs ys rows) (acts_from 0 xs ys rows)

  pub all_same : (u s : Scenario) → IsSameButValues u s → all_blanks m s ≡ all_blanks m u
  all_same u s same = ap₂ (λ claims values. claims ++ values) (claims_from 0 u.actions s.actions same.acts) (values_same u.actions s.actions same.acts)
