-- The elements of lists, by recursion.
use Rattle.std.proofs.Common.{◌≡◌, ◌⊎◌, ℕ, zero, suc, ◌+◌, ◌<◌, List, [], ◌∷◌, ◌++◌, map, length, get_or, Contains, Bool, true, false, cond, if◌then◌else◌, Some, None, refl, sym, ap, ◌∙◌, subst, inl, inr, ⊎_elim, arith}
use Rattle.std.specs.Prelude.{slice_get, flat_map}
use Rattle.std.specs.List.{enumerate_from, filter, find, list_any}
use Rattle.std.proofs.lemmas.Option.{none-some, same_Some}
use Rattle.std.proofs.lemmas.Bool.{false≢true, or_parts, or_left, or_right, or_cases}

abbrev pub In : {A : Type 0} → A → List A → Type 0
In x [] = ⊥
In x (y ∷ ys) = (y ≡ x) ⊎ In x ys

pub in_get : {A : Type 0} (xs : List A) (k : ℕ) (x : A) → slice_get xs k ≡ Some x → In x xs
in_get [] k x is = none-some x is
in_get (y ∷ ys) zero x is = inl (same_Some y x is)
in_get (y ∷ ys) (suc k) x is = inr (in_get ys k x is)

pub in_if : {A : Type 0} (test : Bool) (xs : List A) (x : A) → In x (if test then xs else []) → (test ≡ true) × In x xs
in_if true xs x has = (refl, has)
in_if false xs x has = absurd has

pub in_append : {A : Type 0} (xs ys : List A) (x : A) → In x (xs ++ ys) → In x xs ⊎ In x ys
in_append [] ys x has = inr has
in_append (z ∷ zs) ys x (inl e) = inl (inl e)
in_append (z ∷ zs) ys x (inr has) = ⊎_elim (λ h. inl (inr h)) (λ h. inr h) (in_append zs ys x has)

pub to_left : {A : Type 0} (xs ys : List A) (x : A) → In x xs → In x (xs ++ ys)
to_left [] ys x has = absurd has
to_left (z ∷ zs) ys x (inl e) = inl e
to_left (z ∷ zs) ys x (inr has) = inr (to_left zs ys x has)

pub to_right : {A : Type 0} (xs ys : List A) (x : A) → In x ys → In x (xs ++ ys)
to_right [] ys x has = has
to_right (z ∷ zs) ys x has = inr (to_right zs ys x has)

pub in_map : {A B : Type 0} (f : A → B) (xs : List A) (y : B) → In y (map f xs) → (x : A) × In x xs × (f x ≡ y)
in_map f [] y has = absurd has
in_map f (x ∷ xs) y (inl e) = (x, inl refl, e)
in_map f (x ∷ xs) y (inr has) = let r = in_map f xs y has in (r.0, inr r.1, r.2)

pub to_map : {A B : Type 0} (f : A → B) (xs : List A) (x : A) → In x xs → In (f x) (map f xs)
to_map f [] x has = absurd has
to_map f (y ∷ ys) x (inl e) = inl (ap f e)
to_map f (y ∷ ys) x (inr has) = inr (to_map f ys x has)

pub in_flat_map : {A B : Type 0} (f : A → List B) (xs : List A) (y : B) → In y (flat_map f xs) → (x : A) × In x xs × In y (f x)
in_flat_map f [] y has = absurd has
in_flat_map f (x ∷ xs) y has =
    ⊎_elim (λ h. (x, inl refl, h)) (λ h. let r = in_flat_map f xs y h in (r.0, inr r.1, r.2)) (in_append (f x) (flat_map f xs) y has)

pub to_flat_map : {A B : Type 0} (f : A → List B) (xs : List A) (x : A) (y : B) → In x xs → In y (f x) → In y (flat_map f xs)
to_flat_map f [] x y there has = absurd there
to_flat_map f (z ∷ zs) x y (inl e) has = to_left (f z) (flat_map f zs) y (subst (λ v. In y (f v)) (sym e) has)
to_flat_map f (z ∷ zs) x y (inr there) has = to_right (f z) (flat_map f zs) y (to_flat_map f zs x y there has)

-- ---- elements with their numbers

in_from : {A : Type 0} (k : ℕ) (xs : List A) (e : ℕ × A) → In e (enumerate_from k xs) → (i : ℕ) × (e.0 ≡ k + i) × (slice_get xs i ≡ Some e.1)
in_from k [] e has = absurd has
in_from k (x ∷ xs) e (inl same) = let first : k ≡ e.0 = ap (λ p. p.0) same in (zero, omega (arith, first), ap (λ p. Some p.1) same)
in_from k (x ∷ xs) e (inr has) = let r = in_from (k + 1) xs e has in (suc r.0, omega (arith, r.1), r.2)

pub in_numbered : {A : Type 0} (xs : List A) (e : ℕ × A) → In e (enumerate_from 0 xs) → slice_get xs e.0 ≡ Some e.1
in_numbered xs e has = let r = in_from 0 xs e has in subst (λ k. slice_get xs k ≡ Some e.1) (omega (arith, r.1)) r.2

to_from : {A : Type 0} (k i : ℕ) (xs : List A) (x : A) → slice_get xs i ≡ Some x → In (k + i, x) (enumerate_from k xs)
to_from k i [] x is = none-some x is
to_from k zero (y ∷ ys) x is = let e : k ≡ k + zero = omega arith in inl (λ j. (e j, same_Some y x is j))
to_from k (suc i) (y ∷ ys) x is = let e : (k + 1) + i ≡ k + suc i = omega arith in inr (subst (λ v. In (v, x) (enumerate_from (k + 1) ys)) e (to_from (k + 1) i ys x is))

pub to_numbered : {A : Type 0} (xs : List A) (i : ℕ) (x : A) → slice_get xs i ≡ Some x → In (i, x) (enumerate_from 0 xs)
to_numbered xs i x is = let e : 0 + i ≡ i = omega arith in subst (λ v. In (v, x) (enumerate_from 0 xs)) e (to_from 0 i xs x is)

-- ---- elements that pass a test

by_filter : {A : Type 0} (test : A → Bool) (y : A) (ys : List A) (x : A) → (In x (filter test ys) → In x ys × (test x ≡ true)) → (b : Bool) → test y ≡ b
    → In x (cond b (y ∷ filter test ys) (filter test ys)) → ((y ≡ x) ⊎ In x ys) × (test x ≡ true)
by_filter test y ys x rest true is (inl e) = (inl e, subst (λ v. test v ≡ true) e is)
by_filter test y ys x rest true is (inr has) = let r = rest has in (inr r.0, r.1)
by_filter test y ys x rest false is has = let r = rest has in (inr r.0, r.1)

pub in_filter : {A : Type 0} (test : A → Bool) (xs : List A) (x : A) → In x (filter test xs) → In x xs × (test x ≡ true)
in_filter test [] x has = absurd has
in_filter test (y ∷ ys) x has = by_filter test y ys x (in_filter test ys x) (test y) refl has

by_find : {A : Type 0} (test : A → Bool) (y : A) (ys : List A) (x : A) → (find test ys ≡ Some x → In x ys × (test x ≡ true)) → (b : Bool) → test y ≡ b
    → cond b (Some y) (find test ys) ≡ Some x → ((y ≡ x) ⊎ In x ys) × (test x ≡ true)
by_find test y ys x rest true is e = let same = same_Some y x e in (inl same, subst (λ v. test v ≡ true) same is)
by_find test y ys x rest false is e = let r = rest e in (inr r.0, r.1)

pub in_find : {A : Type 0} (test : A → Bool) (xs : List A) (x : A) → find test xs ≡ Some x → In x xs × (test x ≡ true)
in_find test [] x e = absurd (none-some x e)
in_find test (y ∷ ys) x e = by_find test y ys x (in_find test ys x) (test y) refl e

by_none : {A : Type 0} (test : A → Bool) (y : A) (ys : List A) (x : A) → (find test ys ≡ None → In x ys → test x ≡ false) → (b : Bool) → test y ≡ b
    → cond b (Some y) (find test ys) ≡ None → (y ≡ x) ⊎ In x ys → test x ≡ false
by_none test y ys x rest true is e has = absurd (none-some y (sym e))
by_none test y ys x rest false is e (inl same) = subst (λ v. test v ≡ false) same is
by_none test y ys x rest false is e (inr has) = rest e has

-- where none passes
pub none_found : {A : Type 0} (test : A → Bool) (xs : List A) (x : A) → find test xs ≡ None → In x xs → test x ≡ false
none_found test [] x e has = absurd has
none_found test (y ∷ ys) x e has = by_none test y ys x (none_found test ys x) (test y) refl e has

pub none_any : {A : Type 0} (test : A → Bool) (xs : List A) (x : A) → list_any test xs ≡ false → In x xs → test x ≡ false
none_any test [] x e has = absurd has
none_any test (y ∷ ys) x e (inl same) = subst (λ v. test v ≡ false) same (or_parts (test y) (list_any test ys) e).0
none_any test (y ∷ ys) x e (inr has) = none_any test ys x (or_parts (test y) (list_any test ys) e).1 has

-- ---- elements that pass a test, the other way round

pub any_found : {A : Type 0} (test : A → Bool) (xs : List A) → list_any test xs ≡ true → (x : A) × In x xs × (test x ≡ true)
any_found test [] e = absurd (false≢true e)
any_found test (x ∷ xs) e =
    ⊎_elim (λ is. (x, inl refl, is)) (λ more. let r = any_found test xs more in (r.0, inr r.1, r.2)) (or_cases (test x) (list_any test xs) e)

pub any_from : {A : Type 0} (test : A → Bool) (xs : List A) (x : A) → In x xs → test x ≡ true → list_any test xs ≡ true
any_from test [] x has is = absurd has
any_from test (y ∷ ys) x (inl e) is = or_left (test y) (list_any test ys) (subst (λ v. test v ≡ true) (sym e) is)
any_from test (y ∷ ys) x (inr has) is = or_right (test y) (list_any test ys) (any_from test ys x has is)

keep_filter : {A : Type 0} (test : A → Bool) (y : A) (ys : List A) (x : A) → (In x ys → test x ≡ true → In x (filter test ys)) → (b : Bool) → test y ≡ b
    → (y ≡ x) ⊎ In x ys → test x ≡ true → In x (cond b (y ∷ filter test ys) (filter test ys))
keep_filter test y ys x rest true e (inl same) is = inl same
keep_filter test y ys x rest true e (inr has) is = inr (rest has is)
keep_filter test y ys x rest false e (inl same) is = absurd (false≢true (sym e ∙ ap test same ∙ is))
keep_filter test y ys x rest false e (inr has) is = rest has is

pub to_filter : {A : Type 0} (test : A → Bool) (xs : List A) (x : A) → In x xs → test x ≡ true → In x (filter test xs)
to_filter test [] x has is = absurd has
to_filter test (y ∷ ys) x has is = keep_filter test y ys x (to_filter test ys x) (test y) refl has is

pub to_contains : {A : Type 0} (xs : List A) (x : A) → In x xs → Contains xs x
to_contains [] x has = absurd has
to_contains (y ∷ ys) x (inl e) = (0, omega arith, e)
to_contains (y ∷ ys) x (inr has) = let c = to_contains ys x has in (suc c.0, omega (arith, c.1), c.2)

pub from_contains : {A : Type 0} (xs : List A) (x : A) (k : ℕ) → k < length xs → get_or xs k x ≡ x → In x xs
from_contains [] x k l e = absurd (omega (arith, l))
from_contains (y ∷ ys) x zero l e = inl e
from_contains (y ∷ ys) x (suc k) l e = inr (from_contains ys x k (omega (arith, l)) e)
