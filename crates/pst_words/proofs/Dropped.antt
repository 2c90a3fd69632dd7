-- What stands from a place on in a list that is seen by each element's value.
use Rattle.std.proofs.Common.{arith, sym, refl, ap, ◌∙◌, ◌≡◌, ◌+◌, ℕ, zero, suc, List, [], ◌∷◌, ◌++◌, map, take, drop, cond, Bool, ◌&&◌, ◌||◌, slice_get, Option, Some}
use Rattle.std.proofs.lemmas.Option.{none-some}
use Rattle.std.proofs.lemmas.List.Sums.{sum_by-cons}
use Rattle.std.specs.List.{list_any, list_all, count_by}
use Rattle.std.specs.Option.{option_map_or}

pub some_one : {A : Type 0} (x y : A) → Some x ≡ Some y → x ≡ y
some_one {A} x y e = ap (λ (o : Option A). option_map_or (λ z. z) o x) e

pub dropped : {A : Type 0} (f : A → List ℕ) (xs : List A) (i : ℕ) (x : A) → slice_get xs i ≡ Some x → drop i (map f xs) ≡ f x ∷ drop (i + 1) (map f xs)
dropped f [] i x h = absurd (none-some x h)
dropped f (y ∷ xs) zero x h = ap (λ z. f z ∷ map f xs) (some_one y x h)
dropped f (y ∷ xs) (suc i) x h = let e : suc (i + 1) ≡ suc i + 1 = omega arith in dropped f xs i x h ∙ ap (λ k. f x ∷ drop k (f y ∷ map f xs)) e

pub taken : {A : Type 0} (f : A → List ℕ) (xs : List A) (i : ℕ) (x : A) → slice_get xs i ≡ Some x → take (i + 1) (map f xs) ≡ take i (map f xs) ++ f x ∷ []
taken f [] i x h = absurd (none-some x h)
taken f (y ∷ xs) zero x h = ap (λ z. f z ∷ []) (some_one y x h)
taken f (y ∷ xs) (suc i) x h =
    let e : suc i + 1 ≡ suc (i + 1) = omega arith in
    ap (λ k. take k (f y ∷ map f xs)) e ∙ ap (λ t. f y ∷ t) (taken f xs i x h)

pub any_seen : {A : Type 0} (f : A → List ℕ) (p : List ℕ → Bool) (xs : List A) → list_any p (map f xs) ≡ list_any (λ x. p (f x)) xs
any_seen f p [] = refl
any_seen f p (x ∷ xs) = ap (λ b. p (f x) || b) (any_seen f p xs)

pub all_seen : {A : Type 0} (f : A → List ℕ) (p : List ℕ → Bool) (xs : List A) → list_all p (map f xs) ≡ list_all (λ x. p (f x)) xs
all_seen f p [] = refl
all_seen f p (x ∷ xs) = ap (λ b. p (f x) && b) (all_seen f p xs)

pub count_seen : {A : Type 0} (f : A → List ℕ) (p : List ℕ → Bool) (xs : List A) → count_by p (map f xs) ≡ count_by (λ x. p (f x)) xs
count_seen f p [] = refl
count_seen f p (x ∷ xs) =
    sum_by-cons (λ y. cond (p y) 1 0) (f x) (map f xs) ∙ ap (λ n. cond (p (f x)) 1 0 + n) (count_seen f p xs) ∙ sym (sum_by-cons (λ y. cond (p (f y)) 1 0) x xs)
