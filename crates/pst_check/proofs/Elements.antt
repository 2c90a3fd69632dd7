-- Elements of lists of numbers.
use Rattle.std.proofs.Common.{◌≡◌, ◌⊎◌, ◌+◌, ℕ, ◌<◌, List, [], ◌∷◌, refl, ap₂, inl, inr, ⊎_elim, arith}
use Rattle.std.specs.Prelude.{Contains}
use Rattle.std.proofs.lemmas.List.Elements.{Contains-append_left, Contains-append_right, Contains-append_cases, Contains-push, Contains-push_cases}
use Rattle.std.proofs.lemmas.Bool.{cases_eq}

pub none_in : {X : Type 0} (x : X) → Contains [] x → ⊥
none_in x h = absurd (omega (arith, h.1))

pub cons_cases : {X : Type 0} (y x : X) (xs : List X) → Contains (y ∷ xs) x → (y ≡ x) ⊎ Contains xs x
cons_cases y x xs h =
    ⊎_elim (λ c. ⊎_elim (λ d. absurd (none_in x d)) (λ e. inl e) (Contains-push_cases [] y x c)) (λ d. inr d) (Contains-append_cases (y ∷ []) xs x h)

pub cons_first : {X : Type 0} (x : X) (xs : List X) → Contains (x ∷ xs) x
cons_first x xs = Contains-append_left (x ∷ []) xs x (Contains-push [] x)

pub cons_rest : {X : Type 0} (y x : X) (xs : List X) → Contains xs x → Contains (y ∷ xs) x
cons_rest y x xs h = Contains-append_right (y ∷ []) xs x h

-- lists of numbers are the same or not
pub same_or : (xs ys : List ℕ) → (xs ≡ ys) ⊎ (xs ≡ ys → ⊥)
same_or [] [] = inl refl
same_or [] (y ∷ ys) = inr (λ e. cc)
same_or (x ∷ xs) [] = inr (λ e. cc)
same_or (x ∷ xs) (y ∷ ys) =
    ⊎_elim
    (λ e. ⊎_elim (λ f. inl (ap₂ (λ a b. a ∷ b) e f)) (λ n. inr (λ q. n (tails x y xs ys q))) (same_or xs ys))
    (λ n. inr (λ q. n (heads x y xs ys q)))
    (cases_eq x y)
  where
    tails : (x y : ℕ) (xs ys : List ℕ) → x ∷ xs ≡ y ∷ ys → xs ≡ ys
    tails x y xs ys q = cc

    heads : (x y : ℕ) (xs ys : List ℕ) → x ∷ xs ≡ y ∷ ys → x ≡ y
    heads x y xs ys q = cc

-- a number above all of a list
abbrev pub above : List ℕ → ℕ
above [] = 0
above (x ∷ xs) = x + 1 + above xs

pub below_above : (xs : List ℕ) (x : ℕ) → Contains xs x → x < above xs
below_above [] x h = absurd (none_in x h)
below_above (y ∷ ys) x h =
    ⊎_elim (λ e. omega (arith, e)) (λ k. let l = below_above ys x k in omega (arith, l)) (cons_cases y x ys h)
