-- Lists and options.
use Rattle.std.proofs.Common.{◌≡◌, ◌⊎◌, ℕ, zero, suc, ◌<◌, List, [], ◌∷◌, ◌++◌, length, map, Option, Some, None, refl, sym, ap, ◌∙◌, subst, inl, inr, ⊎_elim, arith}
use Rattle.std.specs.Prelude.{slice_get, flat_map}
use Rattle.std.specs.Option.{option_map}
use Rattle.std.proofs.lemmas.Option.{none-some, same_Some}
use Rattle.pst_built.specs.Onward.{Both}

pub by_mapped : {A K : Type 0} (view : A → K) (o : Option A) (k : K) → option_map view o ≡ Some k → (y : A) × (o ≡ Some y) × (view y ≡ k)
by_mapped view None k e = absurd (none-some k e)
by_mapped view (Some y) k e = (y, refl, same_Some (view y) k e)

pub map_join : {A B : Type 0} (f : A → B) (xs ys : List A) → map f (xs ++ ys) ≡ map f xs ++ map f ys
map_join f [] ys = refl
map_join f (x ∷ xs) ys = ap (λ l. f x ∷ l) (map_join f xs ys)

pub map_flat : {A B C : Type 0} (f : B → C) (g : A → List B) (h : A → List C) (xs : List A) → ((x : A) → map f (g x) ≡ h x) → map f (flat_map g xs) ≡ flat_map h xs
map_flat f g h [] each = refl
map_flat f g h (x ∷ xs) each = map_join f (g x) (flat_map g xs) ∙ ap (λ l. l ++ map f (flat_map g xs)) (each x) ∙ ap (λ l. h x ++ l) (map_flat f g h xs each)

pub get_front : {A : Type 0} (xs ys : List A) (i : ℕ) (x : A) → slice_get xs i ≡ Some x → slice_get (xs ++ ys) i ≡ Some x
get_front [] ys i x is = absurd (none-some x is)
get_front (z ∷ zs) ys zero x is = is
get_front (z ∷ zs) ys (suc i) x is = get_front zs ys i x is

-- an element of a list with one more
pub get_pushed : {A : Type 0} (xs : List A) (x : A) (i : ℕ) (y : A) → slice_get (xs ++ x ∷ []) i ≡ Some y → (slice_get xs i ≡ Some y) ⊎ ((i ≡ length xs) × (y ≡ x))
get_pushed [] x zero y is = inr (refl, sym (same_Some x y is))
get_pushed [] x (suc i) y is = absurd (none-some y is)
get_pushed (z ∷ zs) x zero y is = inl is
get_pushed (z ∷ zs) x (suc i) y is = ⊎_elim (λ h. inl h) (λ h. inr (ap suc h.0, h.1)) (get_pushed zs x i y is)

-- the element of the other row
pub after : {A : Type 0} (G : A → A → Type 0) (x : A) (o p : Option A) → o ≡ Some x → Both G o p → (y : A) × (p ≡ Some y) × G x y
after G x o None is both = absurd (subst (λ q. Both G q None) is both)
after G x o (Some y) is both = (y, refl, subst (λ q. Both G q (Some y)) is both)
