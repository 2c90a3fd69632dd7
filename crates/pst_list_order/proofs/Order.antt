-- The steps of a search that goes through lists of choices in their order, and leaves out those that begin with a list.
use Rattle.std.proofs.Common.{◌≡◌, ◌⊎◌, ℕ, ◌+◌, ◌<◌, ◌≤◌, List, [], ◌∷◌, ◌++◌, refl, ap₂, ◌∙◌, inl, inr, ⊎_elim, arith}
use Rattle.std.proofs.lemmas.Bool.{cases_lt}
use Rattle.pst_legal.specs.First.{IsBefore}
use Rattle.pst_list_order.specs.Passed.{IsPassed}

-- what stands before a list with 0 behind it
pub before_zero : (xs os : List ℕ) → IsBefore os (xs ++ 0 ∷ []) → IsBefore os xs ⊎ (os ≡ xs)
before_zero [] [] h = inr refl
before_zero [] (o ∷ os) (inl l) = let bad : ⊥ = omega (arith, l) in absurd bad
before_zero [] (o ∷ os) (inr e) = absurd e.1
before_zero (x ∷ xs) [] h = inl tt
before_zero (x ∷ xs) (o ∷ os) (inl l) = inl (inl l)
before_zero (x ∷ xs) (o ∷ os) (inr e) = ⊎_elim (λ b. inl (inr (e.0, b))) (λ q. inr (ap₂ ◌∷◌ e.0 q)) (before_zero xs os e.1)

-- what stands before the next choice was passed with this one
pub before_next : (xs os : List ℕ) (d : ℕ) → IsBefore os (xs ++ (d + 1) ∷ []) → IsPassed (xs ++ d ∷ []) os
before_next [] [] d h = tt
before_next [] (o ∷ os) d (inl l) = ⊎_elim (λ (k : o < d). inl k) (λ (k : d ≤ o). inr (omega (arith, l, k), tt)) (cases_lt o d)
before_next [] (o ∷ os) d (inr e) = absurd e.1
before_next (x ∷ xs) [] d h = tt
before_next (x ∷ xs) (o ∷ os) d (inl l) = inl l
before_next (x ∷ xs) (o ∷ os) d (inr e) = inr (e.0, before_next xs os d e.1)

-- the lists that go on with a greater choice
pub record GoesOn (xs os : List ℕ) (d : ℕ) : Type 0 where
  pub digit : ℕ
  pub rest : List ℕ
  pub is : os ≡ xs ++ digit ∷ rest
  pub greater : d < digit

pub passed_front : (xs os : List ℕ) (d : ℕ) → IsPassed xs os → IsPassed (xs ++ d ∷ []) os ⊎ GoesOn xs os d
passed_front [] [] d h = inl tt
passed_front [] (o ∷ os) d h =
    ⊎_elim (λ (k : o < d). inl (inl k))
    (λ (k : d ≤ o). ⊎_elim (λ (l : d < o). inr (record { digit = o; rest = os; is = refl; greater = l })) (λ (l : o ≤ d). inl (inr (omega (arith, k, l), tt))) (cases_lt d o))
    (cases_lt o d)
passed_front (x ∷ xs) [] d h = inl tt
passed_front (x ∷ xs) (o ∷ os) d (inl l) = inl (inl l)
passed_front (x ∷ xs) (o ∷ os) d (inr e) =
    ⊎_elim (λ p. inl (inr (e.0, p))) (λ (g : GoesOn xs os d). inr (record { digit = g.digit; rest = g.rest; is = ap₂ ◌∷◌ e.0 g.is; greater = g.greater })) (passed_front xs os d e.1)

pub record Begins (xs os : List ℕ) : Type 0 where
  pub rest : List ℕ
  pub is : os ≡ xs ++ rest

pub passed_cases : (xs os : List ℕ) → IsPassed xs os → IsBefore os xs ⊎ Begins xs os
passed_cases [] os h = inr (record { rest = os; is = refl })
passed_cases (x ∷ xs) [] h = inl tt
passed_cases (x ∷ xs) (o ∷ os) (inl l) = inl (inl l)
passed_cases (x ∷ xs) (o ∷ os) (inr e) =
    ⊎_elim (λ b. inl (inr (e.0, b))) (λ (g : Begins xs os). inr (record { rest = g.rest; is = ap₂ ◌∷◌ e.0 g.is })) (passed_cases xs os e.1)

pub passed_next : (xs os : List ℕ) (d : ℕ) → IsPassed (xs ++ d ∷ []) os → IsBefore os (xs ++ (d + 1) ∷ [])
passed_next [] [] d h = tt
passed_next [] (o ∷ os) d (inl l) = inl (omega (arith, l))
passed_next [] (o ∷ os) d (inr e) = let q : o ≡ d = e.0 in inl (omega (arith, q))
passed_next (x ∷ xs) [] d h = tt
passed_next (x ∷ xs) (o ∷ os) d (inl l) = inl l
passed_next (x ∷ xs) (o ∷ os) d (inr e) = inr (e.0, passed_next xs os d e.1)

pub passed_up : (xs os : List ℕ) (d : ℕ) → IsPassed (xs ++ d ∷ []) os → IsPassed xs os
passed_up [] os d h = tt
passed_up (x ∷ xs) [] d h = tt
passed_up (x ∷ xs) (o ∷ os) d (inl l) = inl l
passed_up (x ∷ xs) (o ∷ os) d (inr e) = inr (e.0, passed_up xs os d e.1)

pub passed_self : (xs : List ℕ) → IsPassed xs xs
passed_self [] = tt
passed_self (x ∷ xs) = inr (refl, passed_self xs)

pub before_longer : (xs : List ℕ) → IsBefore xs (xs ++ 0 ∷ [])
before_longer [] = tt
before_longer (x ∷ xs) = inr (refl, before_longer xs)

pub before_passed : (os xs : List ℕ) → IsBefore os xs → IsPassed xs os
before_passed os [] h = absurd h
before_passed [] (x ∷ xs) h = tt
before_passed (o ∷ os) (x ∷ xs) (inl l) = inl l
before_passed (o ∷ os) (x ∷ xs) (inr e) = inr (e.0, before_passed os xs e.1)

pub not_itself : (xs : List ℕ) → IsBefore xs xs → ⊥
not_itself [] h = h
not_itself (x ∷ xs) (inl l) = omega (arith, l)
not_itself (x ∷ xs) (inr e) = not_itself xs e.1

pub before_then : (xs ys zs : List ℕ) → IsBefore xs ys → IsBefore ys zs → IsBefore xs zs
before_then xs ys [] one other = other
before_then xs [] (z ∷ zs) one other = absurd one
before_then [] (y ∷ ys) (z ∷ zs) one other = tt
before_then (x ∷ xs) (y ∷ ys) (z ∷ zs) (inl l) (inl k) = inl (omega (arith, l, k))
before_then (x ∷ xs) (y ∷ ys) (z ∷ zs) (inl l) (inr e) = let same : y ≡ z = e.0 in inl (omega (arith, l, same))
before_then (x ∷ xs) (y ∷ ys) (z ∷ zs) (inr d) (inl k) = let same : x ≡ y = d.0 in inl (omega (arith, k, same))
before_then (x ∷ xs) (y ∷ ys) (z ∷ zs) (inr d) (inr e) = inr (d.0 ∙ e.0, before_then xs ys zs d.1 e.1)
