-- The elements of lists, by recursion.
use Rattle.std.proofs.Common.{◌≡◌, ◌⊎◌, ◌<◌, ℕ, zero, suc, List, [], ◌∷◌, ◌++◌, map, length, get_or, Contains, Bool, true, false, cond, Option, Some, None, refl, sym, ap, ◌∙◌, subst, inl, inr, ⊎_elim, arith}
use Rattle.std.specs.Prelude.{slice_get, flat_map}
use Rattle.std.specs.List.{find}
use Rattle.std.proofs.lemmas.Option.{none-some, same_Some, slice_get-get_or}
use Rattle.std.proofs.lemmas.Bool.{false≢true}

abbrev pub In : {A : Type 0} → A → List A → Type 0
In x [] = ⊥
In x (y ∷ ys) = (y ≡ x) ⊎ In x ys

pub in_get : {A : Type 0} (xs : List A) (k : ℕ) (x : A) → slice_get xs k ≡ Some x → In x xs
in_get [] k x is = none-some x is
in_get (y ∷ ys) zero x is = inl (same_Some y x is)
in_get (y ∷ ys) (suc k) x is = inr (in_get ys k x is)

pub in_append : {A : Type 0} (xs ys : List A) (x : A) → In x (xs ++ ys) → In x xs ⊎ In x ys
in_append [] ys x has = inr has
in_append (z ∷ zs) ys x (inl e) = inl (inl e)
in_append (z ∷ zs) ys x (inr has) = ⊎_elim (λ h. inl (inr h)) (λ h. inr h) (in_append zs ys x has)

pub to_left : {A : Type 0} (xs ys : List A) (x : A) → In x xs → In x (xs ++ ys)
to_left [] ys x has = absurd has
to_left (z ∷ zs) ys x (inl e) = inl e
to_left (z ∷ zs) ys x (inr has) = inr (to_left zs ys x has)

pub to_right : {A : Type 0} (xs ys : List A) (x : A) → In x ys → In x (xs ++ ys)
to_right [] ys x has = has
to_right (z ∷ zs) ys x has = inr (to_right zs ys x has)

pub in_map : {A B : Type 0} (f : A → B) (xs : List A) (y : B) → In y (map f xs) → (x : A) × In x xs × (f x ≡ y)
in_map f [] y has = absurd has
in_map f (x ∷ xs) y (inl e) = (x, inl refl, e)
in_map f (x ∷ xs) y (inr has) = let r = in_map f xs y has in (r.0, inr r.1, r.2)

pub to_map : {A B : Type 0} (f : A → B) (xs : List A) (x : A) → In x xs → In (f x) (map f xs)
to_map f [] x has = absurd has
to_map f (y ∷ ys) x (inl e) = inl (ap f e)
to_map f (y ∷ ys) x (inr has) = inr (to_map f ys x has)

pub in_flat_map : {A B : Type 0} (f : A → List B) (xs : List A) (y : B) → In y (flat_map f xs) → (x : A) × In x xs × In y (f x)
in_flat_map f [] y has = absurd has
in_flat_map f (x ∷ xs) y has =
    ⊎_elim (λ h. (x, inl refl, h)) (λ h. let r = in_flat_map f xs y h in (r.0, inr r.1, r.2)) (in_append (f x) (flat_map f xs) y has)

pub to_flat_map : {A B : Type 0} (f : A → List B) (xs : List A) (x : A) (y : B) → In x xs → In y (f x) → In y (flat_map f xs)
to_flat_map f [] x y there has = absurd there
to_flat_map f (z ∷ zs) x y (inl e) has = to_left (f z) (flat_map f zs) y (subst (λ v. In y (f v)) (sym e) has)
to_flat_map f (z ∷ zs) x y (inr there) has = to_right (f z) (flat_map f zs) y (to_flat_map f zs x y there has)

-- an element stands at a number
abbrev pub IsThere : {A : Type 0} → List A → A → Type 0
IsThere xs x = (k : ℕ) × (slice_get xs k ≡ Some x)

pub is_there : {A : Type 0} (xs : List A) (x : A) → Contains xs x → IsThere xs x
is_there xs x c = (c.0, slice_get-get_or xs c.0 x c.1 ∙ ap (λ (y : _). Some y) c.2)

-- ---- what is found

by_find : {A : Type 0} (test : A → Bool) (y : A) (ys : List A) (x : A) → (find test ys ≡ Some x → IsThere ys x × (test x ≡ true)) → (b : Bool) → test y ≡ b
    → cond b (Some y) (find test ys) ≡ Some x → IsThere (y ∷ ys) x × (test x ≡ true)
by_find test y ys x rest true is e = ((zero, e), subst (λ v. test v ≡ true) (same_Some y x e) is)
by_find test y ys x rest false is e = let r = rest e in ((suc r.0.0, r.0.1), r.1)

pub found_there : {A : Type 0} (test : A → Bool) (xs : List A) (x : A) → find test xs ≡ Some x → IsThere xs x × (test x ≡ true)
found_there test [] x e = absurd (none-some x e)
found_there test (y ∷ ys) x e = by_find test y ys x (found_there test ys x) (test y) refl e

by_none : {A : Type 0} (test : A → Bool) (y : A) (ys : List A) (x : A) → (find test ys ≡ None → In x ys → test x ≡ false) → (b : Bool) → test y ≡ b
    → cond b (Some y) (find test ys) ≡ None → (y ≡ x) ⊎ In x ys → test x ≡ false
by_none test y ys x rest true is e has = absurd (none-some y (sym e))
by_none test y ys x rest false is e (inl same) = subst (λ v. test v ≡ false) same is
by_none test y ys x rest false is e (inr has) = rest e has

none_found : {A : Type 0} (test : A → Bool) (xs : List A) (x : A) → find test xs ≡ None → In x xs → test x ≡ false
none_found test [] x e has = absurd has
none_found test (y ∷ ys) x e has = by_none test y ys x (none_found test ys x) (test y) refl e has

-- what passes a test is found
pub some_found : {A : Type 0} (test : A → Bool) (xs : List A) (x : A) → In x xs → test x ≡ true → (y : A) × (find test xs ≡ Some y)
some_found test xs x there is = by (find test xs) refl
  where
    by : (o : Option _) → find test xs ≡ o → (y : _) × (find test xs ≡ Some y)
    by (Some y) e = (y, e)
    by None e = absurd (false≢true (sym (none_found test xs x e there) ∙ is))

-- ---- elements at numbers

pub to_contains : {A : Type 0} (xs : List A) (x : A) → In x xs → Contains xs x
to_contains [] x has = absurd has
to_contains (y ∷ ys) x (inl e) = (0, omega arith, e)
to_contains (y ∷ ys) x (inr has) = let c = to_contains ys x has in (suc c.0, omega (arith, c.1), c.2)

pub from_contains : {A : Type 0} (xs : List A) (x : A) (k : ℕ) → k < length xs → get_or xs k x ≡ x → In x xs
from_contains [] x k l e = absurd (omega (arith, l))
from_contains (y ∷ ys) x zero l e = inl e
from_contains (y ∷ ys) x (suc k) l e = inr (from_contains ys x k (omega (arith, l)) e)
