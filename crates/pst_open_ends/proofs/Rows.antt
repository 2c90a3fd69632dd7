-- Lists that are looked through element by element.
use Rattle.std.proofs.Common.{◌≡◌, ℕ, suc, ◌+◌, ◌<◌, length, get_or, drop, drop-cons, add-one, List, ◌∷◌, ◌++◌, Bool, true, false, ◌||◌, sym, ap, ◌∙◌, append_assoc}
use Rattle.std.specs.List.{list_any}

-- what one more element adds
pub walk_step : {A B : Type 0} (rest : ℕ → List A → List B) (one : ℕ → A → List B) → ((k : ℕ) (x : A) (xs : List A) → rest k (x ∷ xs) ≡ one k x ++ rest (k + 1) xs)
    → (xs : List A) (i : ℕ) (x : A) → i < length xs → x ≡ get_or xs i x → (out new whole : List B) → new ≡ out ++ one i x → out ++ rest i (drop i xs) ≡ whole → new ++ rest (i + 1) (drop (i + 1) xs) ≡ whole
walk_step rest one next xs i x l e out new whole h w =
    ap (λ o. o ++ rest (i + 1) (drop (i + 1) xs)) h
    ∙ append_assoc out (one i x) (rest (i + 1) (drop (i + 1) xs))
    ∙ ap (λ n. out ++ (one i x ++ rest (i + 1) (drop n xs))) (add-one i)
    ∙ ap (λ y. out ++ (one i y ++ rest (i + 1) (drop (suc i) xs))) e
    ∙ ap (λ r. out ++ r) (sym (next i (get_or xs i x) (drop (suc i) xs)))
    ∙ ap (λ l. out ++ rest i l) (sym (drop-cons xs i x l))
    ∙ w

pub any_step : {A : Type 0} (t : A → Bool) (xs : List A) (i : ℕ) (x : A) → i < length xs → x ≡ get_or xs i x → list_any t (drop i xs) ≡ (t x || list_any t (drop (i + 1) xs))
any_step t xs i x l e =
    ap (list_any t) (drop-cons xs i x l)
    ∙ ap (λ y. t y || list_any t (drop (suc i) xs)) (sym e)
    ∙ ap (λ n. t x || list_any t (drop n xs)) (sym (add-one i))

-- some element from there on passes: this one
pub any_here : {A : Type 0} (t : A → Bool) (xs : List A) (i : ℕ) (x : A) → i < length xs → x ≡ get_or xs i x → t x ≡ true → true ≡ list_any t (drop i xs)
any_here t xs i x l e h = sym (any_step t xs i x l e ∙ ap (λ b. b || list_any t (drop (i + 1) xs)) h)

-- or a later one
pub any_later : {A : Type 0} (t : A → Bool) (xs : List A) (i : ℕ) (x : A) → i < length xs → x ≡ get_or xs i x → t x ≡ false → list_any t (drop (i + 1) xs) ≡ list_any t (drop i xs)
any_later t xs i x l e h = sym (any_step t xs i x l e ∙ ap (λ b. b || list_any t (drop (i + 1) xs)) h)
