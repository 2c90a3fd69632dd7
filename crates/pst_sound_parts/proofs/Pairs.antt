-- Properties of each two items of a list.
use Rattle.std.proofs.Common.{◌≡◌, ◌<◌, ◌↔◌, ℕ, List, [], ◌∷◌, ◌++◌, length, All, AllPairs, ◌+◌, ◌-◌, take, drop, get_or, map, subst, sym, ap, ◌∙◌, Bool, false, IsTrue, arith}
use Rattle.std.proofs.lemmas.List.Elements.{All-append, All-cons, All-head, All-tail, All-nil}
use Rattle.std.specs.List.{flat_map}
use Rattle.std.proofs.lemmas.List.Kept.{AllPairs-cons}
use Rattle.std.proofs.lemmas.List.{drop_more, take_all, length-drop}
use Rattle.pst_model.proofs.Pairs.{pairs_head, pairs_tail, pairs_cons, pairs_nil}

pub all_parts : {X : Type 0} (P : X → Type 0) (xs ys : List X) → All P (xs ++ ys) → All P xs × All P ys
all_parts P [] ys h = (All-nil P, h)
all_parts P (x ∷ xs) ys h =
    let rest = all_parts P xs ys (All-tail P x (xs ++ ys) h) in
    (All-cons P x xs (All-head P x (xs ++ ys) h) rest.0, rest.1)

-- a list has a property in both parts
pub all_append : {X : Type 0} (P : X → Type 0) (xs ys : List X) → All P (xs ++ ys) ↔ All P xs × All P ys
all_append P xs ys = (all_parts P xs ys, λ h. All-append P xs ys h.0 h.1)

pairs_parts : {X : Type 0} (R : X → X → Type 0) (xs ys : List X) → AllPairs R (xs ++ ys) → AllPairs R xs × All (λ x. All (R x) ys) xs × AllPairs R ys
pairs_parts R [] ys h = (pairs_nil R, All-nil (λ x. All (R x) ys), h)
pairs_parts R (x ∷ xs) ys h =
    let rest = pairs_parts R xs ys (pairs_tail R x (xs ++ ys) h) in
    let first = all_parts (R x) xs ys (pairs_head R x (xs ++ ys) h) in
    (AllPairs-cons R x xs first.0 rest.0, All-cons (λ y. All (R y) ys) x xs first.1 rest.1, rest.2)

pairs_join : {X : Type 0} (R : X → X → Type 0) (xs ys : List X) → AllPairs R xs → All (λ x. All (R x) ys) xs → AllPairs R ys → AllPairs R (xs ++ ys)
pairs_join R [] ys own across others = others
pairs_join R (x ∷ xs) ys own across others =
    AllPairs-cons R x (xs ++ ys)
    (All-append (R x) xs ys (pairs_head R x xs own) (All-head (λ y. All (R y) ys) x xs across))
    (pairs_join R xs ys (pairs_tail R x xs own) (All-tail (λ y. All (R y) ys) x xs across) others)

-- each two items of two lists in a row
pub pairs_append : {X : Type 0} (R : X → X → Type 0) (xs ys : List X) → AllPairs R (xs ++ ys) ↔ AllPairs R xs × All (λ x. All (R x) ys) xs × AllPairs R ys
pairs_append R xs ys = (pairs_parts R xs ys, λ h. pairs_join R xs ys h.0 h.1 h.2)

-- the items from the i-th on, of which it is the first
pub drop_read : {X : Type 0} (xs : List X) (i : ℕ) (x : X) → i < length xs → x ≡ get_or xs i x → drop i xs ≡ x ∷ drop (i + 1) xs
drop_read xs i x within is = drop_more xs i x within ∙ ap (λ y. y ∷ drop (i + 1) xs) (sym is)

-- what a slice from n on is
pub tail_is : {X : Type 0} (xs : List X) (n : ℕ) → take (length xs - n) (drop n xs) ≡ drop n xs
tail_is xs n = take_all (length xs - n) (drop n xs) (let same = length-drop n xs in omega (arith, same))

-- ---- one turn of a loop over what is left

-- a turn whose test failed answers false
pub refuted : {A W Q : Type 0} (r : Bool) → (r ≡ false) → (IsTrue r ↔ Q) → (A ↔ W) → (A → Q) → (IsTrue false ↔ W)
refuted r failed test so_far needs = (λ h. absurd cc, λ w. let t = test.1 (needs (so_far.1 w)) in absurd cc)

-- a turn whose test held goes on
pub kept : {A B W Q : Type 0} (r : Bool) → (IsTrue r) → (IsTrue r ↔ Q) → (A ↔ W) → (A ↔ Q × B) → (B ↔ W)
kept r held test so_far split = (λ b. so_far.0 (split.1 (test.0 held, b)), λ w. (split.0 (so_far.1 w)).1)

-- the item at i and those behind it
pub pairs_drop : {X : Type 0} (R : X → X → Type 0) (xs : List X) (i : ℕ) (d : X) → i < length xs → (AllPairs R (drop i xs) ↔ All (R (get_or xs i d)) (drop (i + 1) xs) × AllPairs R (drop (i + 1) xs))
pairs_drop {X = X} R xs i d within = subst (λ (ys : List X). AllPairs R ys ↔ All (R (get_or xs i d)) (drop (i + 1) xs) × AllPairs R (drop (i + 1) xs)) (sym (drop_more xs i d within)) (pairs_cons R (get_or xs i d) (drop (i + 1) xs))

-- the item at i and those behind it, each seen through a view and then as a list
pub all_drop : {X Y Z : Type 0} (P : Z → Type 0) (view : X → Y) (f : Y → List Z) (xs : List X) (i : ℕ) (x : X) → i < length xs → x ≡ get_or xs i x → (All P (flat_map f (map view (drop i xs))) ↔ All P (f (view x)) × All P (flat_map f (map view (drop (i + 1) xs))))
all_drop {X = X} P view f xs i x within is = subst (λ (ys : List X). All P (flat_map f (map view ys)) ↔ All P (f (view x)) × All P (flat_map f (map view (drop (i + 1) xs)))) (sym (drop_read xs i x within is)) (all_append P (f (view x)) (flat_map f (map view (drop (i + 1) xs))))

pub flat_pairs_drop : {X Y Z : Type 0} (R : Z → Z → Type 0) (view : X → Y) (f : Y → List Z) (xs : List X) (i : ℕ) (x : X) → i < length xs → x ≡ get_or xs i x → (AllPairs R (flat_map f (map view (drop i xs))) ↔ AllPairs R (f (view x)) × All (λ y. All (R y) (flat_map f (map view (drop (i + 1) xs)))) (f (view x)) × AllPairs R (flat_map f (map view (drop (i + 1) xs))))
flat_pairs_drop {X = X} R view f xs i x within is = subst (λ (ys : List X). AllPairs R (flat_map f (map view ys)) ↔ AllPairs R (f (view x)) × All (λ y. All (R y) (flat_map f (map view (drop (i + 1) xs)))) (f (view x)) × AllPairs R (flat_map f (map view (drop (i + 1) xs)))) (sym (drop_read xs i x within is)) (pairs_append R (f (view x)) (flat_map f (map view (drop (i + 1) xs))))

pub viewed_drop : {X Y : Type 0} (P : Y → Type 0) (view : X → Y) (xs : List X) (i : ℕ) (x : X) → i < length xs → x ≡ get_or xs i x → (All P (map view (drop i xs)) ↔ P (view x) × All P (map view (drop (i + 1) xs)))
viewed_drop {X = X} P view xs i x within is = subst (λ (ys : List X). All P (map view ys) ↔ P (view x) × All P (map view (drop (i + 1) xs))) (sym (drop_read xs i x within is)) (λ h. (All-head P (view x) (map view (drop (i + 1) xs)) h, All-tail P (view x) (map view (drop (i + 1) xs)) h), λ h. All-cons P (view x) (map view (drop (i + 1) xs)) h.0 h.1)
