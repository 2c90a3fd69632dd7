-- Elements of lists.
use Rattle.std.proofs.Common.{◌≡◌, ◌⊎◌, ℕ, suc, ◌<◌, List, [], ◌∷◌, length, get_or, subst, inl, inr, ⊎_elim, arith}
use Rattle.std.specs.Prelude.{Contains}
use Rattle.std.proofs.lemmas.List.Elements.{Contains-append_left, Contains-append_right, Contains-append_cases, Contains-push, Contains-push_cases}
use Rattle.std.proofs.lemmas.Bool.{cases_eq}

pub none_in : {X : Type 0} (x : X) → Contains [] x → ⊥
none_in x h = absurd (omega (arith, h.1))

pub cons_cases : {X : Type 0} (y x : X) (xs : List X) → Contains (y ∷ xs) x → (y ≡ x) ⊎ Contains xs x
cons_cases y x xs h =
    ⊎_elim (λ c. ⊎_elim (λ d. absurd (none_in x d)) (λ e. inl e) (Contains-push_cases [] y x c)) (λ d. inr d) (Contains-append_cases (y ∷ []) xs x h)

pub cons_first : {X : Type 0} (x : X) (xs : List X) → Contains (x ∷ xs) x
cons_first x xs = Contains-append_left (x ∷ []) xs x (Contains-push [] x)

pub cons_rest : {X : Type 0} (y x : X) (xs : List X) → Contains xs x → Contains (y ∷ xs) x
cons_rest y x xs h = Contains-append_right (y ∷ []) xs x h

pub one_in : {X : Type 0} (y x : X) → Contains (y ∷ []) x → y ≡ x
one_in y x h = ⊎_elim (λ e. e) (λ d. absurd (none_in x d)) (cons_cases y x [] h)

pub place_of : (xs : List ℕ) (x : ℕ) → Contains xs x → (i : ℕ) × (i < length xs) × (get_or xs i 0 ≡ x)
place_of [] x h = absurd (none_in x h)
place_of (y ∷ ys) x h =
    ⊎_elim (λ e. (0, omega arith, e)) (λ d. let p = place_of ys x d in let l : p.0 < length ys = p.1 in (suc p.0, omega arith, p.2)) (cons_cases y x ys h)

pub contains_or : (xs : List ℕ) (x : ℕ) → Contains xs x ⊎ (Contains xs x → ⊥)
contains_or [] x = inr (none_in x)
contains_or (y ∷ ys) x =
    ⊎_elim (λ e. inl (subst (λ v. Contains (y ∷ ys) v) e (cons_first y ys)))
    (λ ne. ⊎_elim (λ h. inl (cons_rest y x ys h)) (λ n. inr (λ h. ⊎_elim ne n (cons_cases y x ys h))) (contains_or ys x))
    (cases_eq y x)

-- the first element of a list whose elements differ isn't in the rest, whose elements differ too
abbrev pub Distinct : List ℕ → Type 0
Distinct xs = (i j : ℕ) → i < j → j < length xs → get_or xs i 0 ≡ get_or xs j 0 → ⊥

pub distinct_tail : (x : ℕ) (xs : List ℕ) → Distinct (x ∷ xs) → Distinct xs
distinct_tail x xs h i j l m = h (suc i) (suc j) (omega (arith, l)) (omega (arith, m))

pub distinct_head : (x : ℕ) (xs : List ℕ) → Distinct (x ∷ xs) → Contains xs x → ⊥
distinct_head x xs h c =
    let p = place_of xs x c in
    let l : suc p.0 < suc (length xs) = omega (arith, p.1) in
    let e = p.2 in
    h 0 (suc p.0) (omega arith) l (omega (arith, e))

pub ascending_distinct : (xs : List ℕ) → ((i j : ℕ) → i < j → j < length xs → get_or xs i 0 < get_or xs j 0) → Distinct xs
ascending_distinct xs h i j l m e = let n = h i j l m in absurd (omega (arith, n, e))
