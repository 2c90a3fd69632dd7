-- Facts of each element of a list.
use Rattle.std.proofs.Common.{◌≡◌, ℕ, zero, suc, ◌+◌, List, [], ◌∷◌, ◌++◌, map, Some, refl, ap, ◌∙◌, subst, arith}
use Rattle.std.specs.Prelude.{slice_get, flat_map}
use Rattle.std.specs.List.{enumerate_from}
use Rattle.std.proofs.lemmas.Option.{none-some, same_Some}

abbrev pub Each : {A : Type 0} → (A → Type 0) → List A → Type 0
Each P [] = Unit {0}
Each P (x ∷ xs) = P x × Each P xs

pub each_any : {A : Type 0} (P : A → Type 0) (xs : List A) → ((x : A) → P x) → Each P xs
each_any P [] h = tt
each_any P (x ∷ xs) h = (h x, each_any P xs h)

pub each_join : {A : Type 0} (P : A → Type 0) (xs ys : List A) → Each P xs → Each P ys → Each P (xs ++ ys)
each_join P [] ys one other = other
each_join P (x ∷ xs) ys one other = (one.0, each_join P xs ys one.1 other)

pub each_map : {A B : Type 0} (P : B → Type 0) (f : A → B) (xs : List A) → Each (λ x. P (f x)) xs → Each P (map f xs)
each_map P f [] h = tt
each_map P f (x ∷ xs) h = (h.0, each_map P f xs h.1)

pub each_flat : {A B : Type 0} (P : B → Type 0) (f : A → List B) (xs : List A) → Each (λ x. Each P (f x)) xs → Each P (flat_map f xs)
each_flat P f [] h = tt
each_flat P f (x ∷ xs) h = each_join P (f x) (flat_map f xs) h.0 (each_flat P f xs h.1)

pub each_numbered : {A : Type 0} (P : ℕ × A → Type 0) (k : ℕ) (xs : List A) → ((i : ℕ) (x : A) → slice_get xs i ≡ Some x → P (k + i, x)) → Each P (enumerate_from k xs)
each_numbered P k [] h = tt
each_numbered P k (x ∷ xs) h = (
  let e : k + 0 ≡ k = omega arith in subst (λ n. P (n, x)) e (h 0 x refl),
  each_numbered P (k + 1) xs (λ i y is. let e : k + suc i ≡ k + 1 + i = omega arith in subst (λ n. P (n, y)) e (h (suc i) y is)),
)

pub each_at : {A : Type 0} (P : A → Type 0) (xs : List A) (n : ℕ) (x : A) → Each P xs → slice_get xs n ≡ Some x → P x
each_at P [] n x h is = absurd (none-some x is)
each_at P (y ∷ xs) zero x h is = subst P (same_Some y x is) h.0
each_at P (y ∷ xs) (suc n) x h is = each_at P xs n x h.1 is

pub map_join : {A B : Type 0} (g : A → B) (xs ys : List A) → map g (xs ++ ys) ≡ map g xs ++ map g ys
map_join g [] ys = refl
map_join g (x ∷ xs) ys = ap (λ zs. g x ∷ zs) (map_join g xs ys)

pub map_flat : {A B C : Type 0} (g : B → C) (f : A → List B) (h : A → List C) (xs : List A) → ((x : A) → map g (f x) ≡ h x) → map g (flat_map f xs) ≡ flat_map h xs
map_flat g f h [] same = refl
map_flat g f h (x ∷ xs) same = map_join g (f x) (flat_map f xs) ∙ ap (λ ys. ys ++ map g (flat_map f xs)) (same x) ∙ ap (λ ys. h x ++ ys) (map_flat g f h xs same)

pub map_map : {A B C : Type 0} (g : B → C) (f : A → B) (h : A → C) (xs : List A) → ((x : A) → g (f x) ≡ h x) → map g (map f xs) ≡ map h xs
map_map g f h [] same = refl
map_map g f h (x ∷ xs) same = ap (λ y. y ∷ map g (map f xs)) (same x) ∙ ap (λ ys. h x ∷ ys) (map_map g f h xs same)
