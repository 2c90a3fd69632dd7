-- Lists with numbers.
use Rattle.std.proofs.Common.{◌≡◌, ℕ, zero, suc, ◌+◌, ◌<◌, List, [], ◌∷◌, map, length, Contains, Some, refl, ap, ap₂, ◌∙◌, arith}
use Rattle.std.specs.Prelude.{slice_get}
use Rattle.std.specs.List.{enumerate_from}
use Rattle.std.proofs.lemmas.Option.{none-some, same_Some}
use Rattle.pst_built.proofs.Members.{In, from_contains}

pub in_contains : {A : Type 0} (xs : List A) (x : A) → Contains xs x → In x xs
in_contains xs x c = from_contains xs x c.0 c.1 c.2

-- the same made of the elements of two lists
pub same_rows : {A B C : Type 0} (f : A → C) (g : ℕ × B → C) (k : ℕ) (xs : List A) (ys : List B) → length xs ≡ length ys
    → ((i : ℕ) (x : A) (y : B) → slice_get xs i ≡ Some x → slice_get ys i ≡ Some y → f x ≡ g (k + i, y)) → map f xs ≡ map g (enumerate_from k ys)
same_rows f g k [] [] long each = refl
same_rows f g k [] (y ∷ ys) long each = absurd (omega (arith, long))
same_rows f g k (x ∷ xs) [] long each = absurd (omega (arith, long))
same_rows f g k (x ∷ xs) (y ∷ ys) long each =
    let here : k + zero ≡ k = omega arith in
    ap₂ (λ a b. a ∷ b) (each zero x y refl refl ∙ ap (λ n. g (n, y)) here)
    (same_rows f g (k + 1) xs ys (omega (arith, long))
    (λ i a b s t. let e : k + suc i ≡ (k + 1) + i = omega arith in each (suc i) a b s t ∙ ap (λ n. g (n, b)) e))

pub get_mapped : {A B : Type 0} (f : A → B) (xs : List A) (k : ℕ) (x : A) → slice_get xs k ≡ Some x → slice_get (map f xs) k ≡ Some (f x)
get_mapped f [] k x is = absurd (none-some x is)
get_mapped f (y ∷ ys) zero x is = ap (λ z. Some (f z)) (same_Some y x is)
get_mapped f (y ∷ ys) (suc k) x is = get_mapped f ys k x is

pub length_numbered : {A : Type 0} (k : ℕ) (xs : List A) → length (enumerate_from k xs) ≡ length xs
length_numbered k [] = refl
length_numbered k (x ∷ xs) = ap suc (length_numbered (k + 1) xs)

pub get_below : {A : Type 0} (xs : List A) (k : ℕ) → k < length xs → (x : A) × (slice_get xs k ≡ Some x)
get_below [] k l = absurd (omega (arith, l))
get_below (x ∷ xs) zero l = (x, refl)
get_below (x ∷ xs) (suc k) l = get_below xs k (omega (arith, l))

-- two lists, as one of pairs
pub zipped : {A B : Type 0} (xs : List A) (ys : List B) → length xs ≡ length ys → (zs : List (A × B)) × (map (λ e. e.0) zs ≡ xs) × (map (λ e. e.1) zs ≡ ys)
zipped [] [] long = ([], refl, refl)
zipped [] (y ∷ ys) long = absurd (omega (arith, long))
zipped (x ∷ xs) [] long = absurd (omega (arith, long))
zipped (x ∷ xs) (y ∷ ys) long = let z = zipped xs ys (omega (arith, long)) in ((x, y) ∷ z.0, ap (λ zs. x ∷ zs) z.1, ap (λ zs. y ∷ zs) z.2)
