-- Changing one element of a list.
use Rattle.std.proofs.Common.{◌≡◌, ◌≢◌, ℕ, zero, suc, ◌+◌, ◌<◌, ◌≤◌, List, [], ◌∷◌, length, map, get_or, set, nat_eq, if◌then◌else◌, refl, ap, ◌∙◌, arith}
use Rattle.std.specs.Prelude.{slice_get}
use Rattle.std.specs.List.{enumerate_from}
use Rattle.std.proofs.lemmas.Bool.{eq-eqb, ne_eqb}
use Rattle.pst_legal.specs.SupplyReading.{alter}

-- the same by the place of the element
abbrev pub alt : {A : Type 0} → (A → A) → ℕ → List A → List A
alt f n [] = []
alt f zero (x ∷ xs) = f x ∷ xs
alt f (suc n) (x ∷ xs) = x ∷ alt f n xs

abbrev altered : {A : Type 0} → (A → A) → ℕ → ℕ → List A → List A
altered f k n xs = map (λ e. if nat_eq e.0 n then f e.1 else e.1) (enumerate_from k xs)

past : {A : Type 0} (f : A → A) (k n : ℕ) (xs : List A) → n < k → altered f k n xs ≡ xs
past f k n [] l = refl
past f k n (x ∷ xs) l =
    ap (λ b. (if b then f x else x) ∷ altered f (k + 1) n xs) (ne_eqb k n (λ e. let bad : ⊥ = omega arith in bad))
    ∙ ap (λ r. x ∷ r) (past f (k + 1) n xs (omega arith))

at_place : {A : Type 0} (f : A → A) (k j n : ℕ) (xs : List A) → n ≡ k + j → altered f k n xs ≡ alt f j xs
at_place f k j n [] e = refl
at_place f k zero n (x ∷ xs) e =
    let same : k ≡ n = omega arith in
    ap (λ b. (if b then f x else x) ∷ altered f (k + 1) n xs) (eq-eqb k n same)
    ∙ ap (λ r. f x ∷ r) (past f (k + 1) n xs (omega arith))
at_place f k (suc j) n (x ∷ xs) e =
    ap (λ b. (if b then f x else x) ∷ altered f (k + 1) n xs) (ne_eqb k n (λ s. let bad : ⊥ = omega arith in bad))
    ∙ ap (λ r. x ∷ r) (at_place f (k + 1) j n xs (omega arith))

pub alter_is : {A : Type 0} (f : A → A) (n : ℕ) (xs : List A) → alter f n xs ≡ alt f n xs
alter_is f n xs = at_place f 0 n n xs (omega arith)

alt_set : {A : Type 0} (f : A → A) (n : ℕ) (xs : List A) (d : A) → n < length xs → alt f n xs ≡ set xs n (f (get_or xs n d))
alt_set f n [] d h = absurd (omega arith)
alt_set f zero (x ∷ xs) d h = refl
alt_set f (suc n) (x ∷ xs) d h = ap (λ l. x ∷ l) (alt_set f n xs d (omega arith))

alt_past : {A : Type 0} (f : A → A) (n : ℕ) (xs : List A) → length xs ≤ n → alt f n xs ≡ xs
alt_past f n [] h = refl
alt_past f zero (x ∷ xs) h = absurd (omega arith)
alt_past f (suc n) (x ∷ xs) h = ap (λ l. x ∷ l) (alt_past f n xs (omega arith))

alt_of_set : {A : Type 0} (g : A → A) (n : ℕ) (xs : List A) (y d : A) → n < length xs → g y ≡ get_or xs n d → alt g n (set xs n y) ≡ xs
alt_of_set g n [] y d h e = absurd (omega arith)
alt_of_set g zero (x ∷ xs) y d h e = ap (λ z. z ∷ xs) e
alt_of_set g (suc n) (x ∷ xs) y d h e = ap (λ l. x ∷ l) (alt_of_set g n xs y d (omega arith) e)

alt_length : {A : Type 0} (f : A → A) (n : ℕ) (xs : List A) → length (alt f n xs) ≡ length xs
alt_length f n [] = refl
alt_length f zero (x ∷ xs) = refl
alt_length f (suc n) (x ∷ xs) = ap (λ k. suc k) (alt_length f n xs)

alt_other : {A : Type 0} (f : A → A) (n k : ℕ) (xs : List A) → k ≢ n → slice_get (alt f n xs) k ≡ slice_get xs k
alt_other f n k [] h = refl
alt_other f zero zero (x ∷ xs) h = absurd (h refl)
alt_other f zero (suc k) (x ∷ xs) h = refl
alt_other f (suc n) zero (x ∷ xs) h = refl
alt_other f (suc n) (suc k) (x ∷ xs) h = alt_other f n k xs (λ e. h (ap (λ i. suc i) e))

-- ---- the same of what the definitions say

pub alter_set : {A : Type 0} (f : A → A) (n : ℕ) (xs : List A) (d : A) → n < length xs → alter f n xs ≡ set xs n (f (get_or xs n d))
alter_set f n xs d h = alter_is f n xs ∙ alt_set f n xs d h

pub alter_past : {A : Type 0} (f : A → A) (n : ℕ) (xs : List A) → length xs ≤ n → alter f n xs ≡ xs
alter_past f n xs h = alter_is f n xs ∙ alt_past f n xs h

-- an element that was changed has its former value again
pub alter_of_set : {A : Type 0} (g : A → A) (n : ℕ) (xs : List A) (y d : A) → n < length xs → g y ≡ get_or xs n d → alter g n (set xs n y) ≡ xs
alter_of_set g n xs y d h e = alter_is g n (set xs n y) ∙ alt_of_set g n xs y d h e

-- which other value stands in for one that isn't there doesn't matter
pub get_same : {A : Type 0} (xs : List A) (n : ℕ) (d e : A) → n < length xs → get_or xs n d ≡ get_or xs n e
get_same [] n d e l = absurd (omega arith)
get_same (x ∷ xs) zero d e l = refl
get_same (x ∷ xs) (suc n) d e l = get_same xs n d e (omega arith)

pub alter_length : {A : Type 0} (f : A → A) (n : ℕ) (xs : List A) → length (alter f n xs) ≡ length xs
alter_length f n xs = ap length (alter_is f n xs) ∙ alt_length f n xs

pub alter_other : {A : Type 0} (f : A → A) (n k : ℕ) (xs : List A) → k ≢ n → slice_get (alter f n xs) k ≡ slice_get xs k
alter_other f n k xs h = ap (λ l. slice_get l k) (alter_is f n xs) ∙ alt_other f n k xs h
