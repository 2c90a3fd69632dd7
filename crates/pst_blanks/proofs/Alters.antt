-- Changing one element of a list.
use Rattle.std.proofs.Common.{◌≡◌, ℕ, zero, suc, ◌+◌, ◌<◌, ◌≤◌, List, [], ◌∷◌, length, map, get_or, set, nat_eq, if◌then◌else◌, refl, sym, ap, ◌∙◌, arith}
use Rattle.std.specs.List.{enumerate_from}
use Rattle.std.proofs.lemmas.Bool.{eq-eqb, ne_eqb}
use Rattle.pst_legal.specs.SupplyReading.{alter}

-- the same by the place of the element
abbrev pub alt : {A : Type 0} → (A → A) → ℕ → List A → List A
alt f n [] = []
alt f zero (x ∷ xs) = f x ∷ xs
alt f (suc n) (x ∷ xs) = x ∷ alt f n xs

abbrev altered : {A : Type 0} → (A → A) → ℕ → ℕ → List A → List A
altered f k n xs = map (λ e. if nat_eq e.0 n then f e.1 else e.1) (enumerate_from k xs)

past : {A : Type 0} (f : A → A) (k n : ℕ) (xs : List A) → n < k → altered f k n xs ≡ xs
past f k n [] l = refl
past f k n (x ∷ xs) l =
    ap (λ b. (if b then f x else x) ∷ altered f (k + 1) n xs) (ne_eqb k n (λ e. let bad : ⊥ = omega arith in bad))
    ∙ ap (λ r. x ∷ r) (past f (k + 1) n xs (omega arith))

at_place : {A : Type 0} (f : A → A) (k j n : ℕ) (xs : List A) → n ≡ k + j → altered f k n xs ≡ alt f j xs
at_place f k j n [] e = refl
at_place f k zero n (x ∷ xs) e =
    let same : k ≡ n = omega arith in
    ap (λ b. (if b then f x else x) ∷ altered f (k + 1) n xs) (eq-eqb k n same)
    ∙ ap (λ r. f x ∷ r) (past f (k + 1) n xs (omega arith))
at_place f k (suc j) n (x ∷ xs) e =
    ap (λ b. (if b then f x else x) ∷ altered f (k + 1) n xs) (ne_eqb k n (λ s. let bad : ⊥ = omega arith in bad))
    ∙ ap (λ r. x ∷ r) (at_place f (k + 1) j n xs (omega arith))

pub alter_is : {A : Type 0} (f : A → A) (n : ℕ) (xs : List A) → alter f n xs ≡ alt f n xs
alter_is f n xs = at_place f 0 n n xs (omega arith)

alt_set : {A : Type 0} (f : A → A) (n : ℕ) (xs : List A) (d : A) → n < length xs → alt f n xs ≡ set xs n (f (get_or xs n d))
alt_set f n [] d h = absurd (omega arith)
alt_set f zero (x ∷ xs) d h = refl
alt_set f (suc n) (x ∷ xs) d h = ap (λ l. x ∷ l) (alt_set f n xs d (omega arith))

alt_past : {A : Type 0} (f : A → A) (n : ℕ) (xs : List A) → length xs ≤ n → alt f n xs ≡ xs
alt_past f n [] h = refl
alt_past f zero (x ∷ xs) h = absurd (omega arith)
alt_past f (suc n) (x ∷ xs) h = ap (λ l. x ∷ l) (alt_past f n xs (omega arith))

pub alter_set : {A : Type 0} (f : A → A) (n : ℕ) (xs : List A) (d : A) → n < length xs → alter f n xs ≡ set xs n (f (get_or xs n d))
alter_set f n xs d h = alter_is f n xs ∙ alt_set f n xs d h

pub alter_past : {A : Type 0} (f : A → A) (n : ℕ) (xs : List A) → length xs ≤ n → alter f n xs ≡ xs
alter_past f n xs h = alter_is f n xs ∙ alt_past f n xs h

-- which other value stands in for one that isn't there doesn't matter
pub get_same : {A : Type 0} (xs : List A) (n : ℕ) (d e : A) → n < length xs → get_or xs n d ≡ get_or xs n e
get_same [] n d e l = absurd (omega arith)
get_same (x ∷ xs) zero d e l = refl
get_same (x ∷ xs) (suc n) d e l = get_same xs n d e (omega arith)

-- what the program puts there is the change
pub set_like : {A : Type 0} (f : A → A) (n : ℕ) (xs : List A) (x y : A) → n < length xs → x ≡ get_or xs n x → y ≡ f x → set xs n y ≡ alter f n xs
set_like f n xs x y h e is = ap (set xs n) (is ∙ ap f e) ∙ sym (alter_set f n xs x h)

alt_back : {A : Type 0} (f g : A → A) (n : ℕ) (xs : List A) → ((x : A) → g (f x) ≡ x) → alt g n (alt f n xs) ≡ xs
alt_back f g n [] h = refl
alt_back f g zero (x ∷ xs) h = ap (λ y. y ∷ xs) (h x)
alt_back f g (suc n) (x ∷ xs) h = ap (λ l. x ∷ l) (alt_back f g n xs h)

-- the one change undoes the other
pub alter_back : {A : Type 0} (f g : A → A) (n : ℕ) (xs : List A) → ((x : A) → g (f x) ≡ x) → alter g n (alter f n xs) ≡ xs
alter_back f g n xs h = alter_is g n (alter f n xs) ∙ ap (alt g n) (alter_is f n xs) ∙ alt_back f g n xs h

alt_same : {A B : Type 0} (p : A → B) (f : A → A) (n : ℕ) (xs : List A) → ((x : A) → p (f x) ≡ p x) → map p (alt f n xs) ≡ map p xs
alt_same p f n [] h = refl
alt_same p f zero (x ∷ xs) h = ap (λ y. y ∷ map p xs) (h x)
alt_same p f (suc n) (x ∷ xs) h = ap (λ l. p x ∷ l) (alt_same p f n xs h)

-- what the change leaves as it is
pub alter_same : {A B : Type 0} (p : A → B) (f : A → A) (n : ℕ) (xs : List A) → ((x : A) → p (f x) ≡ p x) → map p (alter f n xs) ≡ map p xs
alter_same p f n xs h = ap (map p) (alter_is f n xs) ∙ alt_same p f n xs h
