-- How many actions there are.
use Rattle.std.proofs.Common.{◌≡◌, ℕ, zero, suc, ◌+◌, List, [], ◌∷◌, ◌++◌, length, map, replicate, cond, Option, Some, None, refl, sym, ap, ◌∙◌, subst, arith, length-append}
use Rattle.std.specs.List.{count_by}
use Rattle.std.specs.Option.{is_none}
use Rattle.std.proofs.lemmas.List.{length-map, length-replicate}
use Rattle.std.proofs.lemmas.List.Sums.{sum_by-cons}
use Rattle.pst_scen.specs.declared.act.Act.{Act}

abbrev one_if : Option ℕ → ℕ
one_if o = cond (is_none o) 1 0

count_one : (x : Act) (xs : List Act) → count_by (λ (act : Act). is_none act.node) (x ∷ xs) ≡ one_if x.node + count_by (λ (act : Act). is_none act.node) xs
count_one x xs = sum_by-cons (λ (act : Act). cond (is_none act.node) 1 0) x xs

first_is : (x : Option ℕ) (xs : List (Option ℕ)) (y : Option ℕ) (ys : List (Option ℕ)) → (x ∷ xs) ≡ (y ∷ ys) → (x ≡ y) × (xs ≡ ys)
first_is x xs y ys e = (cc, cc)

none_first : (x : Option ℕ) (xs : List (Option ℕ)) → [] ≡ (x ∷ xs) → ⊥
none_first x xs e = cc

-- how many actions stand behind those of the leaves
pub counted : (acts : List Act) (ls : List (ℕ × ℕ)) (k : ℕ) → map (λ (act : Act). act.node) acts ≡ map (λ e. Some e.1) ls ++ replicate k None → count_by (λ (act : Act). is_none act.node) acts ≡ k
counted [] [] zero e = refl
counted [] [] (suc k) e = absurd (none_first None (replicate k None) e)
counted [] (l ∷ ls) k e = absurd (none_first (Some l.1) (map (λ x. Some x.1) ls ++ replicate k None) e)
counted (x ∷ xs) [] zero e = absurd (none_first x.node (map (λ (act : Act). act.node) xs) (sym e))
counted (x ∷ xs) [] (suc k) e =
    let p = first_is x.node (map (λ (act : Act). act.node) xs) None (replicate k None) e in
    let rest = counted xs [] k p.1 in
    let here : one_if x.node ≡ 1 = ap one_if p.0 in
    let sum = count_one x xs in
    omega (arith, rest, here, sum)
counted (x ∷ xs) (l ∷ ls) k e =
    let p = first_is x.node (map (λ (act : Act). act.node) xs) (Some l.1) (map (λ y. Some y.1) ls ++ replicate k None) e in
    let rest = counted xs ls k p.1 in
    let here : one_if x.node ≡ 0 = ap one_if p.0 in
    let sum = count_one x xs in
    omega (arith, rest, here, sum)

-- there are the leaves' actions and those
pub many : (acts : List Act) (ls : List (ℕ × ℕ)) (k : ℕ) → map (λ (act : Act). act.node) acts ≡ map (λ e. Some e.1) ls ++ replicate k None → length acts ≡ length ls + k
many acts ls k e =
    let whole : length (map (λ (act : Act). act.node) acts) ≡ length (map (λ (x : ℕ × ℕ). Some x.1) ls ++ replicate k None) = ap length e in
    let parts : length (map (λ (x : ℕ × ℕ). Some x.1) ls ++ replicate k None) ≡ length (map (λ (x : ℕ × ℕ). Some x.1) ls) + length (replicate {A = Option ℕ} k None) =
    length-append (map (λ x. Some x.1) ls) (replicate k None) in
    let rest : length (replicate {A = Option ℕ} k None) ≡ k = length-replicate k None in
    omega (arith, whole, parts, rest, length-map acts (λ (act : Act). act.node), length-map ls (λ (x : ℕ × ℕ). Some x.1))
