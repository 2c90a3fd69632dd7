-- Lists of choices, their beginnings and their places.
use Rattle.std.proofs.Common.{◌≡◌, ℕ, zero, suc, ◌+◌, ◌<◌, List, [], ◌∷◌, ◌++◌, take, length, get_or, Bool, true, false, ◌&&◌, nat_eq, Option, Some, None, refl, sym, ap, ap₂, ◌∙◌, subst, arith}
use Rattle.std.specs.Prelude.{slice_get}
use Rattle.std.proofs.lemmas.Bool.{eq-eqb, eqb-true}
use Rattle.std.proofs.lemmas.Option.{none-some, same_Some, slice_get-get_or}
use Rattle.pst_search_places.specs.Facts.{begins, is_same}

pub eq_self : (n : ℕ) → nat_eq n n ≡ true
eq_self n = eq-eqb n n refl

pub both_true : (a b : Bool) → (a && b) ≡ true → (a ≡ true) × (b ≡ true)
both_true true b e = (refl, e)
both_true false b e = let bad : false ≡ true = e in absurd cc

-- ---- parts of a list

pub take_all : (xs ys : List ℕ) → take (length xs) (xs ++ ys) ≡ xs
take_all [] ys = refl
take_all (x ∷ xs) ys = ap (λ zs. x ∷ zs) (take_all xs ys)

pub take_whole : (xs : List ℕ) → take (length xs) xs ≡ xs
take_whole [] = refl
take_whole (x ∷ xs) = ap (λ zs. x ∷ zs) (take_whole xs)

pub take_next : (xs : List ℕ) (p x : ℕ) → slice_get xs p ≡ Some x → take (suc p) xs ≡ take p xs ++ x ∷ []
take_next [] p x e = absurd (none-some x e)
take_next (y ∷ ys) zero x e = ap (λ z. z ∷ []) (same_Some y x e)
take_next (y ∷ ys) (suc p) x e = ap (λ zs. y ∷ zs) (take_next ys p x e)

pub take_behind : (xs ys : List ℕ) (i : ℕ) → take (length xs + i) (xs ++ ys) ≡ xs ++ take i ys
take_behind [] ys i = let e : 0 + i ≡ i = omega arith in ap (λ n. take n ys) e
take_behind (x ∷ xs) ys i =
    let e : length (x ∷ xs) + i ≡ suc (length xs + i) = omega arith in
    ap (λ n. take n (x ∷ (xs ++ ys))) e ∙ ap (λ zs. x ∷ zs) (take_behind xs ys i)

pub take_length : (xs : List ℕ) (p : ℕ) → p < length xs → length (take (suc p) xs) ≡ suc p
take_length [] p l = let bad : ⊥ = omega (arith, l) in absurd bad
take_length (x ∷ xs) zero l = refl
take_length (x ∷ xs) (suc p) l = ap suc (take_length xs p (omega (arith, l)))

pub take_get : (xs : List ℕ) (p : ℕ) → slice_get (take (suc p) xs) p ≡ slice_get xs p
take_get [] p = refl
take_get (x ∷ xs) zero = refl
take_get (x ∷ xs) (suc p) = take_get xs p

pub get_front : (xs ys : List ℕ) (p x : ℕ) → slice_get xs p ≡ Some x → slice_get (xs ++ ys) p ≡ Some x
get_front [] ys p x e = absurd (none-some x e)
get_front (z ∷ zs) ys zero x e = e
get_front (z ∷ zs) ys (suc p) x e = get_front zs ys p x e

pub get_behind : (xs ys : List ℕ) (i : ℕ) → slice_get (xs ++ ys) (length xs + i) ≡ slice_get ys i
get_behind [] ys i = let e : 0 + i ≡ i = omega arith in ap (slice_get ys) e
get_behind (x ∷ xs) ys i =
    let e : length (x ∷ xs) + i ≡ suc (length xs + i) = omega arith in
    ap (slice_get (x ∷ (xs ++ ys))) e ∙ get_behind xs ys i

pub get_last : (xs : List ℕ) (x : ℕ) → slice_get (xs ++ x ∷ []) (length xs) ≡ Some x
get_last [] x = refl
get_last (y ∷ ys) x = get_last ys x

pub first_behind : (xs : List ℕ) (x : ℕ) (ys : List ℕ) → slice_get (xs ++ x ∷ ys) (length xs) ≡ Some x
first_behind [] x ys = refl
first_behind (y ∷ xs) x ys = first_behind xs x ys

pub some_at : (xs : List ℕ) (p : ℕ) → p < length xs → slice_get xs p ≡ Some (get_or xs p 0)
some_at xs p l = slice_get-get_or xs p 0 l

-- ---- the same choice

pub same_some : (o p : Option ℕ) → is_same o p ≡ true → (x : ℕ) × (o ≡ Some x) × (p ≡ Some x)
same_some None p e = let bad : false ≡ true = e in absurd cc
same_some (Some x) None e = let bad : false ≡ true = e in absurd cc
same_some (Some x) (Some y) e = (x, refl, ap Some (sym (eqb-true x y e)))

pub some_same : (o p : Option ℕ) (x : ℕ) → o ≡ Some x → p ≡ Some x → is_same o p ≡ true
some_same o p x one other = ap₂ is_same one other ∙ eq_self x

-- ---- beginnings

pub list_begins : (xs ys : List ℕ) → begins xs (xs ++ ys) ≡ true
list_begins [] ys = refl
list_begins (x ∷ xs) ys = ap₂ ◌&&◌ (eq_self x) (list_begins xs ys)

pub front_begins : (n : ℕ) (xs : List ℕ) → begins (take n xs) xs ≡ true
front_begins zero xs = refl
front_begins (suc n) [] = refl
front_begins (suc n) (x ∷ xs) = ap₂ ◌&&◌ (eq_self x) (front_begins n xs)

pub record Goes (xs other : List ℕ) : Type 0 where
  pub more : List ℕ
  pub is : other ≡ xs ++ more

pub begins_goes : (xs other : List ℕ) → begins xs other ≡ true → Goes xs other
begins_goes [] other e = record { more = other; is = refl }
begins_goes (x ∷ xs) [] e = let bad : false ≡ true = e in absurd cc
begins_goes (x ∷ xs) (y ∷ ys) e =
    let both = both_true (nat_eq x y) (begins xs ys) e in
    let rest = begins_goes xs ys both.1 in
    record { more = rest.more; is = ap₂ ◌∷◌ (sym (eqb-true x y both.0)) rest.is }

-- so does its front
pub shorter_begins : (n : ℕ) (xs other : List ℕ) → begins xs other ≡ true → begins (take n xs) other ≡ true
shorter_begins zero xs other e = refl
shorter_begins (suc n) [] other e = refl
shorter_begins (suc n) (x ∷ xs) [] e = let bad : false ≡ true = e in absurd cc
shorter_begins (suc n) (x ∷ xs) (y ∷ ys) e = let both = both_true (nat_eq x y) (begins xs ys) e in ap₂ ◌&&◌ both.0 (shorter_begins n xs ys both.1)

pub begins_next : (xs other : List ℕ) (x : ℕ) → begins xs other ≡ true → slice_get other (length xs) ≡ Some x → begins (xs ++ x ∷ []) other ≡ true
begins_next [] [] x e is = absurd (none-some x is)
begins_next [] (y ∷ ys) x e is = ap₂ ◌&&◌ (eq-eqb x y (sym (same_Some y x is))) refl
begins_next (z ∷ zs) [] x e is = let bad : false ≡ true = e in absurd cc
begins_next (z ∷ zs) (y ∷ ys) x e is = let both = both_true (nat_eq z y) (begins zs ys) e in ap₂ ◌&&◌ both.0 (begins_next zs ys x both.1 is)

pub begins_at : (xs other : List ℕ) (p x : ℕ) → begins xs other ≡ true → slice_get xs p ≡ Some x → slice_get other p ≡ Some x
begins_at xs other p x e is = let goes = begins_goes xs other e in subst (λ ys. slice_get ys p ≡ Some x) (sym goes.is) (get_front xs goes.more p x is)
