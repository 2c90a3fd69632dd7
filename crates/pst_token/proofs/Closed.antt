-- How far the first `*/` of a text reaches.
use Rattle.std.proofs.Common.{◌≡◌, ℕ, suc, zero, ◌+◌, ◌≤◌, Bool, true, false, cond, ◌&&◌, List, [], ◌∷◌, ◌++◌, length, take, drop, Option, Some, None, refl, ap, sym, subst, ◌∙◌, arith, codes, nat_eq}
use Rattle.std.proofs.lemmas.Bool.{and_parts, eqb-true}
use Rattle.std.specs.List.{starts_with}
use Rattle.std.specs.Option.{option_map}
use Rattle.pst_token.specs.Next.{closed_len}

-- a text that begins with two bytes
pub starts_two : (x y : ℕ) (text : List ℕ) → starts_with nat_eq text (x ∷ y ∷ []) ≡ true → (rest : List ℕ) × (text ≡ x ∷ y ∷ rest)
starts_two x y [] starts = cc
starts_two x y (a ∷ []) starts = let parts = and_parts (nat_eq x a) false starts in cc
starts_two x y (a ∷ b ∷ rest) starts =
    let parts = and_parts (nat_eq x a) (nat_eq y b && true) starts in
    let second = and_parts (nat_eq y b) true parts.1 in
    let first_is : x ≡ a = eqb-true x a parts.0 in
    let second_is : y ≡ b = eqb-true y b second.0 in
    (rest, cc)

-- where there is a `*/`, the first one reaches no further
pub closed_reaches : (text rest : List ℕ) → (n : ℕ) × (closed_len ((text ++ codes "*/") ++ rest) ≡ Some n) × (n ≤ length text + 2)
closed_reaches [] rest = (2, refl, omega arith)
closed_reaches (b ∷ text) rest =
    by_test (starts_with nat_eq (b ∷ ((text ++ codes "*/") ++ rest)) (codes "*/")) refl (closed_reaches text rest)
  where
    by_test : (t : Bool) → starts_with nat_eq (b ∷ ((text ++ codes "*/") ++ rest)) (codes "*/") ≡ t
        → ((n : ℕ) × (closed_len ((text ++ codes "*/") ++ rest) ≡ Some n) × (n ≤ length text + 2))
        → (n : ℕ) × (closed_len (((b ∷ text) ++ codes "*/") ++ rest) ≡ Some n) × (n ≤ length (b ∷ text) + 2)
    by_test true h later = (2, rw h refl, omega arith)
    by_test false h (n, found, least) = (suc n, rw (h, found) refl, omega arith)

-- a `*/` ends after n bytes
abbrev pub ClosesAt : List ℕ → ℕ → Type 0
ClosesAt bytes n = (text : List ℕ) × (rest : List ℕ) × (bytes ≡ (text ++ codes "*/") ++ rest) × (n ≡ length text + 2)

-- what is found is a `*/`
pub closed_found : (bytes : List ℕ) (n : ℕ) → closed_len bytes ≡ Some n → ClosesAt bytes n
closed_found [] n found = cc
closed_found (b ∷ bytes) n found =
    by_test (starts_with nat_eq (b ∷ bytes) (codes "*/")) refl (closed_found bytes) found
  where
    further : (o : Option ℕ) → closed_len bytes ≡ o → ((m : ℕ) → closed_len bytes ≡ Some m → ClosesAt bytes m) → option_map suc o ≡ Some n → ClosesAt (b ∷ bytes) n
    further (Some m) here later e =
        let n_is : suc m ≡ n = cc in
        let (text, rest, made, long) = later m here in
        (b ∷ text, rest, ap (λ bs. b ∷ bs) made, omega arith)
    further None here later e = cc

    by_test : (t : Bool) → starts_with nat_eq (b ∷ bytes) (codes "*/") ≡ t → ((m : ℕ) → closed_len bytes ≡ Some m → ClosesAt bytes m)
        → cond t (Some 2) (option_map suc (closed_len bytes)) ≡ Some n → ClosesAt (b ∷ bytes) n
    by_test true h later e =
        let two : 2 ≡ n = cc in
        let begins = starts_two 42 47 (b ∷ bytes) h in
        ([], begins.0, begins.1, sym two)
    by_test false h later e = further (closed_len bytes) refl later e
