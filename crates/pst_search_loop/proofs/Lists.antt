-- Lists of choices: their beginnings and their order.
use Rattle.std.proofs.Common.{◌≡◌, ◌⊎◌, ℕ, zero, suc, ◌+◌, ◌-◌, ◌*◌, ◌^◌, ◌<◌, List, [], ◌∷◌, ◌++◌, take, length, length-append, refl, sym, ap, ap₂, ◌∙◌, inl, inr, ⊎_elim, arith}
use Rattle.pst_legal.specs.First.{IsBefore}
use Rattle.pst_list_order.specs.Passed.{IsPassed}
use Rattle.pst_search_loop.specs.Search.{rank, last_digit}

take_front_suc : (xs ys : List ℕ) (p : ℕ) → p < length xs → take (suc p) (xs ++ ys) ≡ take (suc p) xs
take_front_suc [] ys p l = let bad : ⊥ = omega (arith, l) in absurd bad
take_front_suc (x ∷ xs) ys zero l = refl
take_front_suc (x ∷ xs) ys (suc p) l = ap (λ zs. x ∷ zs) (take_front_suc xs ys p (omega (arith, l)))

-- up to a place of the front
pub take_front : (xs ys : List ℕ) (p : ℕ) → p < length xs → take (p + 1) (xs ++ ys) ≡ take (p + 1) xs
take_front xs ys p l =
    let e : p + 1 ≡ suc p = omega arith in
    ap (λ n. take n (xs ++ ys)) e ∙ take_front_suc xs ys p l ∙ ap (λ n. take n xs) (sym e)

take_next_suc : (xs : List ℕ) (d : ℕ) (more : List ℕ) → take (suc (length xs)) (xs ++ d ∷ more) ≡ xs ++ d ∷ []
take_next_suc [] d more = refl
take_next_suc (x ∷ xs) d more = ap (λ zs. x ∷ zs) (take_next_suc xs d more)

-- up to the place behind it
pub take_next : (xs : List ℕ) (d : ℕ) (more : List ℕ) → take (length xs + 1) (xs ++ d ∷ more) ≡ xs ++ d ∷ []
take_next xs d more = let e : length xs + 1 ≡ suc (length xs) = omega arith in ap (λ n. take n (xs ++ d ∷ more)) e ∙ take_next_suc xs d more

pub length_next : (xs : List ℕ) (d : ℕ) → length (xs ++ d ∷ []) ≡ length xs + 1
length_next xs d = length-append xs (d ∷ [])

-- the same list and the same last choice
abbrev tail_of : List ℕ → List ℕ
tail_of [] = []
tail_of (x ∷ xs) = xs

abbrev head_of : List ℕ → ℕ
head_of [] = 0
head_of (x ∷ xs) = x

absurd_nil : (x : ℕ) (xs : List ℕ) → ([] ≡ x ∷ xs) → ⊥
absurd_nil x xs e = let l : length {A = ℕ} [] ≡ length (x ∷ xs) = ap length e in let bad : ⊥ = omega (arith, l) in bad

pub same_front : (xs ys : List ℕ) (d e : ℕ) → xs ++ d ∷ [] ≡ ys ++ e ∷ [] → xs ≡ ys
same_front [] [] d e h = refl
same_front [] (y ∷ []) d e h = absurd (absurd_nil e [] (ap tail_of h))
same_front [] (y ∷ z ∷ ys) d e h = absurd (absurd_nil z (ys ++ e ∷ []) (ap tail_of h))
same_front (x ∷ []) [] d e h = absurd (absurd_nil d [] (sym (ap tail_of h)))
same_front (x ∷ z ∷ xs) [] d e h = absurd (absurd_nil z (xs ++ d ∷ []) (sym (ap tail_of h)))
same_front (x ∷ xs) (y ∷ ys) d e h = ap₂ ◌∷◌ (ap head_of h) (same_front xs ys d e (ap tail_of h))

-- ---- the order

pub passed_next : (xs os : List ℕ) (d e : ℕ) → d < e → IsPassed (xs ++ d ∷ []) os → IsBefore os (xs ++ e ∷ [])
passed_next [] [] d e less h = tt
passed_next [] (o ∷ os) d e less (inl l) = inl (omega (arith, l, less))
passed_next [] (o ∷ os) d e less (inr h) = let q : o ≡ d = h.0 in inl (omega (arith, q, less))
passed_next (x ∷ xs) [] d e less h = tt
passed_next (x ∷ xs) (o ∷ os) d e less (inl l) = inl l
passed_next (x ∷ xs) (o ∷ os) d e less (inr h) = inr (h.0, passed_next xs os d e less h.1)

pub passed_up : (xs os : List ℕ) (d : ℕ) → IsPassed (xs ++ d ∷ []) os → IsPassed xs os
passed_up [] os d h = tt
passed_up (x ∷ xs) [] d h = tt
passed_up (x ∷ xs) (o ∷ os) d (inl l) = inl l
passed_up (x ∷ xs) (o ∷ os) d (inr e) = inr (e.0, passed_up xs os d e.1)

pub passed_self : (xs : List ℕ) → IsPassed xs xs
passed_self [] = tt
passed_self (x ∷ xs) = inr (refl, passed_self xs)

pub before_longer : (xs : List ℕ) (d : ℕ) → IsBefore xs (xs ++ d ∷ [])
before_longer [] d = tt
before_longer (x ∷ xs) d = inr (refl, before_longer xs d)

pub before_passed : (os xs : List ℕ) → IsBefore os xs → IsPassed xs os
before_passed os [] h = absurd h
before_passed [] (x ∷ xs) h = tt
before_passed (o ∷ os) (x ∷ xs) (inl l) = inl l
before_passed (o ∷ os) (x ∷ xs) (inr e) = inr (e.0, before_passed os xs e.1)

-- a list that parts from another at its last choice
pub record PartsAt (xs os : List ℕ) (d : ℕ) : Type 0 where
  pub digit : ℕ
  pub less : digit < d
  pub rest : List ℕ
  pub is : os ≡ xs ++ digit ∷ rest

pub before_cases : (xs os : List ℕ) (d : ℕ) → IsBefore os (xs ++ d ∷ []) → (IsBefore os xs ⊎ (os ≡ xs)) ⊎ PartsAt xs os d
before_cases [] [] d h = inl (inr refl)
before_cases [] (o ∷ os) d (inl l) = inr (record { digit = o; less = l; rest = os; is = refl })
before_cases [] (o ∷ os) d (inr e) = absurd e.1
before_cases (x ∷ xs) [] d h = inl (inl tt)
before_cases (x ∷ xs) (o ∷ os) d (inl l) = inl (inl (inl l))
before_cases (x ∷ xs) (o ∷ os) d (inr e) =
    ⊎_elim (λ b. ⊎_elim (λ c. inl (inl (inr (e.0, c)))) (λ q. inl (inr (ap₂ ◌∷◌ e.0 q))) b)
    (λ (p : PartsAt xs os d). inr (record { digit = p.digit; less = p.less; rest = p.rest; is = ap₂ ◌∷◌ e.0 p.is })) (before_cases xs os d e.1)

-- ---- the measure

last_digit-append : (xs : List ℕ) (d : ℕ) → last_digit (xs ++ d ∷ []) ≡ d
last_digit-append [] d = refl
last_digit-append (x ∷ []) d = refl
last_digit-append (x ∷ y ∷ ys) d = last_digit-append (y ∷ ys) d

rank_of : (xs : List ℕ) (d : ℕ) → rank (xs ++ d ∷ []) ≡ (length xs + 1) * 2 ^ 65 - d
rank_of xs d = ap (λ n. n * 2 ^ 65 - last_digit (xs ++ d ∷ [])) (length-append xs (d ∷ [])) ∙ ap (λ n. (length xs + 1) * 2 ^ 65 - n) (last_digit-append xs d)

pub rank_up : (xs : List ℕ) (d : ℕ) → d < 2 ^ 64 → rank xs < rank (xs ++ d ∷ [])
rank_up xs d h = let r : rank (xs ++ d ∷ []) ≡ (length xs + 1) * 2 ^ 65 - d = rank_of xs d in omega (arith, r, h)

pub rank_next : (xs : List ℕ) (d e : ℕ) → d < e → e < 2 ^ 64 → rank (xs ++ e ∷ []) < rank (xs ++ d ∷ [])
rank_next xs d e less h =
    let r : rank (xs ++ d ∷ []) ≡ (length xs + 1) * 2 ^ 65 - d = rank_of xs d in
    let s : rank (xs ++ e ∷ []) ≡ (length xs + 1) * 2 ^ 65 - e = rank_of xs e in
    omega (arith, r, s, less, h)
