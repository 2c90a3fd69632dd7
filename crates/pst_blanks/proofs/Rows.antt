-- Lists that are looked through element by element.
use Rattle.std.proofs.Common.{◌≡◌, ℕ, suc, ◌+◌, ◌-◌, ◌<◌, length, cond, arith, get_or, map, drop, length-drop, drop-cons, add-one, List, [], ◌∷◌, ◌++◌, ◌||◌, Bool, true, false, refl, sym, ap, ◌∙◌, append_assoc}
use Rattle.std.specs.List.{list_any, filter, range_with_len}
use Rattle.pst_blanks.specs.Blanks.{pool_if}

-- what one more element adds
pub walk_step : {A B : Type 0} (rest : ℕ → List A → List B) (one : ℕ → A → List B) → ((k : ℕ) (x : A) (xs : List A) → rest k (x ∷ xs) ≡ one k x ++ rest (k + 1) xs)
    → (xs : List A) (i : ℕ) (x : A) → i < length xs → x ≡ get_or xs i x → (out new whole : List B) → new ≡ out ++ one i x → out ++ rest i (drop i xs) ≡ whole → new ++ rest (i + 1) (drop (i + 1) xs) ≡ whole
walk_step rest one next xs i x l e out new whole h w =
    ap (λ o. o ++ rest (i + 1) (drop (i + 1) xs)) h
    ∙ append_assoc out (one i x) (rest (i + 1) (drop (i + 1) xs))
    ∙ ap (λ n. out ++ (one i x ++ rest (i + 1) (drop n xs))) (add-one i)
    ∙ ap (λ y. out ++ (one i y ++ rest (i + 1) (drop (suc i) xs))) e
    ∙ ap (λ r. out ++ r) (sym (next i (get_or xs i x) (drop (suc i) xs)))
    ∙ ap (λ l. out ++ rest i l) (sym (drop-cons xs i x l))
    ∙ w

pub or_assoc : (a b c : Bool) → ((a || b) || c) ≡ (a || (b || c))
or_assoc true b c = refl
or_assoc false b c = refl

-- a test of what is left is one of the next element, and then of the others
pub any_step : {A : Type 0} (test : A → Bool) (xs : List A) (i : ℕ) (x : A) → i < length xs → x ≡ get_or xs i x → list_any test (drop i xs) ≡ (test x || list_any test (drop (i + 1) xs))
any_step test xs i x l e =
    ap (list_any test) (drop-cons xs i x l)
    ∙ ap (λ y. test y || list_any test (drop (suc i) xs)) (sym e)
    ∙ ap (λ n. test x || list_any test (drop n xs)) (sym (add-one i))

pool_then : (b : Bool) (i : ℕ) (out rest : List ℕ) → (out ++ pool_if b i) ++ rest ≡ out ++ cond b (i ∷ rest) rest
pool_then true i out rest = append_assoc out (i ∷ []) rest
pool_then false i out rest = append_assoc out [] rest

-- one number of a range more is looked at
pub used_step : (test : ℕ → Bool) (n i : ℕ) (b : Bool) (out new whole : List ℕ) → i < n → new ≡ out ++ pool_if b i → b ≡ test i → out ++ filter test (range_with_len i (n - i)) ≡ whole → new ++ filter test (range_with_len (i + 1) (n - (i + 1))) ≡ whole
used_step test n i b out new whole l e is w =
    let more : n - i ≡ suc (n - (i + 1)) = omega arith in
    let rest = filter test (range_with_len (i + 1) (n - (i + 1))) in
    ap (λ xs. xs ++ rest) e
    ∙ pool_then b i out rest
    ∙ ap (λ c. out ++ cond c (i ∷ rest) rest) is
    ∙ ap (λ k. out ++ filter test (range_with_len i k)) (sym more)
    ∙ w

-- one of so many numbers more is added
pub range_step : {A B : Type 0} (f : ℕ → B) (xs : List A) (i : ℕ) (out new whole : List B) → i < length xs → new ≡ out ++ f i ∷ [] → out ++ map f (range_with_len i (length (drop i xs))) ≡ whole → new ++ map f (range_with_len (i + 1) (length (drop (i + 1) xs))) ≡ whole
range_step f xs i out new whole l e w =
    let a = length-drop i xs in
    let b = length-drop (i + 1) xs in
    let more : length (drop i xs) ≡ suc (length (drop (i + 1) xs)) = omega (arith, a, b) in
    let rest = map f (range_with_len (i + 1) (length (drop (i + 1) xs))) in
    ap (λ ys. ys ++ rest) e
    ∙ append_assoc out (f i ∷ []) rest
    ∙ ap (λ k. out ++ map f (range_with_len i k)) (sym more)
    ∙ w
