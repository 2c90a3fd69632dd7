-- Lists that are looked through element by element.
use Rattle.std.proofs.Common.{◌≡◌, ℕ, suc, ◌+◌, ◌-◌, ◌<◌, List, ◌∷◌, Bool, true, false, ◌&&◌, ◌||◌, cond, refl, ap, ◌∙◌, arith}
use Rattle.std.specs.Prelude.{flat_map}
use Rattle.std.specs.List.{list_any, filter, range_with_len}
use Rattle.std.proofs.lemmas.List.Folds.{list_any-append}

or_false : (b : Bool) → (false || b) ≡ b
or_false b = refl

module _ {A : Type 0} (f : A → Bool) (g : ℕ → List A) (test : ℕ → Bool) where
  abbrev pub Rest : List ℕ → Bool
  Rest xs = list_any f (flat_map g (filter test xs))

  by_test : (x : ℕ) (xs : List ℕ) (b : Bool) → list_any f (flat_map g (cond b (x ∷ filter test xs) (filter test xs))) ≡ ((b && list_any f (g x)) || Rest xs)
  by_test x xs true = list_any-append f (g x) (flat_map g (filter test xs))
  by_test x xs false = refl

  pub first_of : (x : ℕ) (xs : List ℕ) → Rest (x ∷ xs) ≡ ((test x && list_any f (g x)) || Rest xs)
  first_of x xs = by_test x xs (test x)

  range_on : (i n : ℕ) → i < n → range_with_len i (n - i) ≡ i ∷ range_with_len (i + 1) (n - (i + 1))
  range_on i n l =
      let e : n - i ≡ suc (n - (i + 1)) = omega (arith, l) in
      ap (range_with_len i) e

  -- where the number at hand passes no test, what is left tells
  pub passed : (i n : ℕ) → i < n → (test i && list_any f (g i)) ≡ false → Rest (range_with_len i (n - i)) ≡ Rest (range_with_len (i + 1) (n - (i + 1)))
  passed i n l e = ap Rest (range_on i n l) ∙ first_of i (range_with_len (i + 1) (n - (i + 1))) ∙ ap (λ b. b || Rest (range_with_len (i + 1) (n - (i + 1)))) e

  pub found : (i n : ℕ) → i < n → (test i && list_any f (g i)) ≡ true → Rest (range_with_len i (n - i)) ≡ true
  found i n l e = ap Rest (range_on i n l) ∙ first_of i (range_with_len (i + 1) (n - (i + 1))) ∙ ap (λ b. b || Rest (range_with_len (i + 1) (n - (i + 1)))) e
