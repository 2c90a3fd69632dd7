-- Ascending lists, and lists within lists.
use Rattle.std.proofs.Common.{◌≡◌, ◌≢◌, ℕ, zero, suc, ◌+◌, ◌<◌, ◌≤◌, List, [], ◌∷◌, ◌++◌, length, get_or, take, refl, sym, ap, ◌∙◌, subst, ⊎_elim, arith, length-append}
use Rattle.std.specs.Prelude.{Contains}
use Rattle.std.proofs.lemmas.List.Elements.{Contains-get_or}
use Rattle.std.proofs.lemmas.Bool.{cases_lt}
use Rattle.pst_book.proofs.Elements.{none_in, cons_cases, cons_first, cons_rest, place_of}

abbrev pub Ascending : List ℕ → Type 0
Ascending xs = (i j : ℕ) → i < j → j < length xs → get_or xs i 0 < get_or xs j 0

abbrev pub Distinct : List ℕ → Type 0
Distinct xs = (i j : ℕ) → i < j → j < length xs → get_or xs i 0 ≢ get_or xs j 0

pub ascending_distinct : (xs : List ℕ) → Ascending xs → Distinct xs
ascending_distinct xs h i j l m e = let n = h i j l m in absurd (omega (arith, n, e))

pub ascending_tail : (x : ℕ) (xs : List ℕ) → Ascending (x ∷ xs) → Ascending xs
ascending_tail x xs h i j l m = h (suc i) (suc j) (omega (arith, l)) (omega (arith, m))

pub ascending_head : (x : ℕ) (xs : List ℕ) → Ascending (x ∷ xs) → (z : ℕ) → Contains xs z → x < z
ascending_head x xs h z c =
    let p = place_of xs z c in
    let l : suc p.0 < suc (length xs) = omega (arith, p.1) in
    let n = h 0 (suc p.0) (omega arith) l in
    subst (λ v. x < v) p.2 n

-- two ascending lists with the same elements are one
pub ascending_same : (xs ys : List ℕ) → Ascending xs → Ascending ys → ((z : ℕ) → Contains xs z → Contains ys z) → ((z : ℕ) → Contains ys z → Contains xs z) → xs ≡ ys
ascending_same [] [] a b f g = refl
ascending_same [] (y ∷ ys) a b f g = absurd (none_in y (g y (cons_first y ys)))
ascending_same (x ∷ xs) [] a b f g = absurd (none_in x (f x (cons_first x xs)))
ascending_same (x ∷ xs) (y ∷ ys) a b f g =
    let e : x ≡ y =
    ⊎_elim (λ q. sym q)
    (λ k. ⊎_elim (λ q. q)
    (λ m. let p = ascending_head y ys b x k in let q = ascending_head x xs a y m in absurd (omega (arith, p, q))) (cons_cases x y xs (g y (cons_first y ys))))
    (cons_cases y x ys (f x (cons_first x xs))) in
    let t = ascending_same xs ys (ascending_tail x xs a) (ascending_tail y ys b)
    (λ z c. ⊎_elim (λ q. let p = ascending_head x xs a z c in absurd (omega (arith, p, q, e))) (λ k. k) (cons_cases y z ys (f z (cons_rest x z xs c))))
    (λ z c. ⊎_elim (λ q. let p = ascending_head y ys b z c in absurd (omega (arith, p, q, e))) (λ k. k) (cons_cases x z xs (g z (cons_rest y z ys c)))) in
    λ i. e i ∷ t i

one_less : (ls : List ℕ) (u : ℕ) → Contains ls u → (rest : List ℕ) × (length ls ≡ suc (length rest)) × ((v : ℕ) → v ≢ u → Contains ls v → Contains rest v)
one_less [] u h = absurd (none_in u h)
one_less (y ∷ ys) u h =
    ⊎_elim (λ e. (ys, refl, λ v n c. ⊎_elim (λ q. absurd (n (sym q ∙ e))) (λ k. k) (cons_cases y v ys c)))
    (λ k. let r = one_less ys u k in
    (y ∷ r.0, ap suc r.1, λ v n c. ⊎_elim (λ q. subst (λ w. Contains (y ∷ r.0) w) q (cons_first y r.0)) (λ m. cons_rest y v r.0 (r.2 v n m)) (cons_cases y v ys c)))
    (cons_cases y u ys h)

-- different elements of a list are no more than its length
pub no_longer : (us ls : List ℕ) → Distinct us → ((v : ℕ) → Contains us v → Contains ls v) → length us ≤ length ls
no_longer [] ls d f = omega arith
no_longer (u ∷ us) ls d f =
    let r = one_less ls u (f u (cons_first u us)) in
    let l = no_longer us r.0 (λ i j m n. d (suc i) (suc j) (omega (arith, m)) (omega (arith, n)))
    (λ v c. r.2 v
    (λ e. let p = place_of us v c in
    let m : suc p.0 < suc (length us) = omega (arith, p.1) in
    d 0 (suc p.0) (omega arith) m (sym e ∙ sym p.2))
    (f v (cons_rest u v us c))) in
    omega (arith, l, r.1)

-- an ascending list with a greater element behind it
pub at_push : (xs : List ℕ) (x i : ℕ) → i < length xs → get_or (xs ++ x ∷ []) i 0 ≡ get_or xs i 0
at_push [] x i l = absurd (omega (arith, l))
at_push (y ∷ ys) x zero l = refl
at_push (y ∷ ys) x (suc i) l = at_push ys x i (omega (arith, l))

pub at_end : (xs : List ℕ) (x : ℕ) → get_or (xs ++ x ∷ []) (length xs) 0 ≡ x
at_end [] x = refl
at_end (y ∷ ys) x = at_end ys x

pub ascending_push : (xs : List ℕ) (x : ℕ) → Ascending xs → ((z : ℕ) → Contains xs z → z < x) → Ascending (xs ++ x ∷ [])
ascending_push xs x h g i j l m =
    let n : length (xs ++ x ∷ []) ≡ length xs + 1 = length-append xs (x ∷ []) in
    ⊎_elim
    (λ k. let i' : i < length xs = omega (arith, l, k) in
    let a = at_push xs x i i' in
    let b = at_push xs x j k in
    let o = h i j l k in
    omega (arith, a, b, o))
    (λ k. let e : length xs ≡ j = omega (arith, k, m, n) in
    let i' : i < length xs = omega (arith, l, e) in
    let a = at_push xs x i i' in
    let b : get_or (xs ++ x ∷ []) j 0 ≡ x = ap (λ v. get_or (xs ++ x ∷ []) v 0) (sym e) ∙ at_end xs x in
    let o = g (get_or xs i 0) (Contains-get_or xs i 0 i') in
    omega (arith, a, b, o))
    (cases_lt j (length xs))

pub contains_taken : (k : ℕ) (xs : List ℕ) (x : ℕ) → Contains (take k xs) x → Contains xs x
contains_taken zero xs x h = absurd (none_in x h)
contains_taken (suc k) [] x h = h
contains_taken (suc k) (y ∷ ys) x h =
    ⊎_elim (λ e. subst (λ v. Contains (y ∷ ys) v) e (cons_first y ys)) (λ c. cons_rest y x ys (contains_taken k ys x c)) (cons_cases y x (take k ys) h)
