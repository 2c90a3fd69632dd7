-- Lists that are looked through element by element.
use Rattle.std.proofs.Common.{◌≡◌, ℕ, zero, suc, ◌+◌, ◌<◌, length, drop, add-one, arith, List, [], ◌∷◌, ◌++◌, refl, sym, ap, ◌∙◌, append_assoc}

-- the rest of a list, from one of its elements on
pub rest_step : {A : Type 0} (xs : List A) (i : ℕ) → i < length xs → (x : A) × (drop i xs ≡ x ∷ drop (suc i) xs)
rest_step [] i l = absurd (omega arith)
rest_step (x ∷ xs) zero l = (x, refl)
rest_step (x ∷ xs) (suc i) l = rest_step xs i (omega arith)

-- what one more element adds, whatever it is
pub walk_on : {A B : Type 0} (rest : ℕ → List A → List B) (one : ℕ → List B) → ((k : ℕ) (x : A) (xs : List A) → rest k (x ∷ xs) ≡ one k ++ rest (k + 1) xs)
    → (xs : List A) (i : ℕ) → i < length xs → (out new whole : List B) → new ≡ out ++ one i → out ++ rest i (drop i xs) ≡ whole → new ++ rest (i + 1) (drop (i + 1) xs) ≡ whole
walk_on rest one next xs i l out new whole h w =
    let r = rest_step xs i l in
    ap (λ o. o ++ rest (i + 1) (drop (i + 1) xs)) h
    ∙ append_assoc out (one i) (rest (i + 1) (drop (i + 1) xs))
    ∙ ap (λ n. out ++ (one i ++ rest (i + 1) (drop n xs))) (add-one i)
    ∙ ap (λ r. out ++ r) (sym (next i r.0 (drop (suc i) xs)))
    ∙ ap (λ l. out ++ rest i l) (sym r.1)
    ∙ w
