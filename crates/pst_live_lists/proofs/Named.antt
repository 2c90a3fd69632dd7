-- The lists of all levels, one after another, each with its level.
use Rattle.std.proofs.Common.{◌≡◌, ◌≢◌, ◌∙◌, ℕ, zero, suc, ◌+◌, ◌≤◌, List, [], ◌∷◌, ◌++◌, length, map, length-append, refl, ap, sym, subst, inl, inr, arith}
use Rattle.std.specs.Prelude.{All, AllPairs, Some, slice_get, sum_by}
use Rattle.std.proofs.lemmas.List.{length-map}
use Rattle.std.proofs.lemmas.List.Elements.{All-nil, All-head, All-tail, All-append, All-map, All-weaker}
use Rattle.std.proofs.lemmas.List.Kept.{AllPairs-cons}
use Rattle.std.proofs.lemmas.List.Sums.{sum_by-cons}
use Rattle.pst_legal.specs.First.{IsBefore}
use Rattle.pst_live_lists.specs.Few.{LevelList, level_list}

-- ---- the order of lists

not_itself : (xs : List ℕ) → IsBefore xs xs → ⊥
not_itself [] h = h
not_itself (x ∷ xs) (inl l) = omega (arith, l)
not_itself (x ∷ xs) (inr e) = not_itself xs e.1

pub before_then : (xs ys zs : List ℕ) → IsBefore xs ys → IsBefore ys zs → IsBefore xs zs
before_then xs ys [] one other = other
before_then xs [] (z ∷ zs) one other = absurd one
before_then [] (y ∷ ys) (z ∷ zs) one other = tt
before_then (x ∷ xs) (y ∷ ys) (z ∷ zs) (inl l) (inl k) = inl (omega (arith, l, k))
before_then (x ∷ xs) (y ∷ ys) (z ∷ zs) (inl l) (inr e) = let same : y ≡ z = e.0 in inl (omega (arith, l, same))
before_then (x ∷ xs) (y ∷ ys) (z ∷ zs) (inr d) (inl k) = let same : x ≡ y = d.0 in inl (omega (arith, k, same))
before_then (x ∷ xs) (y ∷ ys) (z ∷ zs) (inr d) (inr e) = inr (d.0 ∙ e.0, before_then xs ys zs d.1 e.1)

-- ---- pairs

pub pairs_head : {X : Type 0} (R : X → X → Type 0) (x : X) (xs : List X) → AllPairs R (x ∷ xs) → All (R x) xs
pairs_head R x xs h k d within = h zero (suc k) d (omega arith) (omega arith)

pub pairs_tail : {X : Type 0} (R : X → X → Type 0) (x : X) (xs : List X) → AllPairs R (x ∷ xs) → AllPairs R xs
pairs_tail R x xs h i j d low within = h (suc i) (suc j) d (omega arith) (omega arith)

pairs_append : {X : Type 0} (R : X → X → Type 0) (xs ys : List X) → AllPairs R xs → AllPairs R ys → All (λ x. All (R x) ys) xs → AllPairs R (xs ++ ys)
pairs_append R [] ys h k across = k
pairs_append R (x ∷ xs) ys h k across =
    AllPairs-cons R x (xs ++ ys) (All-append (R x) xs ys (pairs_head R x xs h) (All-head (λ z. All (R z) ys) x xs across))
    (pairs_append R xs ys (pairs_tail R x xs h) k (All-tail (λ z. All (R z) ys) x xs across))

all_of : {X : Type 0} (P : X → Type 0) (xs : List X) → ((x : X) → P x) → All P xs
all_of P xs each k d within = each _

-- ---- levels

-- the lists of the levels from that one on, each with its level
pub named : ℕ → List (List (List ℕ)) → List LevelList
named level [] = []
named level (lists ∷ more) = map (level_list level) lists ++ named (level + 1) more

-- each level from that one on has that
abbrev pub EachLevel : (ℕ → List (List ℕ) → Type 0) → ℕ → List (List (List ℕ)) → Type 0
EachLevel P level lists = (k : ℕ) (of_level : List (List ℕ)) → slice_get lists k ≡ Some of_level → P (level + k) of_level

here : (P : ℕ → List (List ℕ) → Type 0) (level : ℕ) (lists : List (List ℕ)) (more : List (List (List ℕ))) → EachLevel P level (lists ∷ more) → P level lists
here P level lists more h = subst (λ n. P n lists) (omega arith) (h zero lists refl)

later : (P : ℕ → List (List ℕ) → Type 0) (level : ℕ) (lists : List (List ℕ)) (more : List (List (List ℕ))) → EachLevel P level (lists ∷ more) → EachLevel P (level + 1) more
later P level lists more h k of_level is = subst (λ n. P n of_level) (omega arith) (h (suc k) of_level is)

-- there are as many as in all levels
pub as_many : (level : ℕ) (lists : List (List (List ℕ))) → length (named level lists) ≡ sum_by length lists
unfolding named
as_many level [] = refl
as_many level (lists ∷ more) =
    let rest : length (named (level + 1) more) ≡ sum_by length more = as_many (level + 1) more in
    let sum : sum_by length (lists ∷ more) ≡ length lists + sum_by length more = sum_by-cons length lists more in
    let both = length-append (map (level_list level) lists) (named (level + 1) more) in
    let same : length (map (level_list level) lists) ≡ length lists = length-map lists (level_list level) in
    omega (arith, rest, sum, both, same)

-- what each level has of its lists, all of them have
pub all_named : (Q : LevelList → Type 0) (level : ℕ) (lists : List (List (List ℕ))) → EachLevel (λ n of_level. All (λ c. Q (level_list n c)) of_level) level lists → All Q (named level lists)
unfolding named
all_named Q level [] h = All-nil Q
all_named Q level (lists ∷ more) h =
    All-append Q (map (level_list level) lists) (named (level + 1) more) (All-map Q (level_list level) lists (here (λ n of_level. All (λ c. Q (level_list n c)) of_level) level lists more h))
    (all_named Q (level + 1) more (later (λ n of_level. All (λ c. Q (level_list n c)) of_level) level lists more h))

from_level : (level : ℕ) (lists : List (List (List ℕ))) → All (λ list. level ≤ list.level) (named level lists)
from_level level lists = all_named (λ list. level ≤ list.level) level lists (λ k of_level is. all_of (λ c. level ≤ level + k) of_level (λ c. omega arith))

-- ---- different lists

same_choices : (level : ℕ) (x y : List ℕ) → level_list level x ≡ level_list level y → x ≡ y
same_choices level x y e = ap (λ (l : LevelList). l.choices) e

apart_in : (level : ℕ) (lists : List (List ℕ)) → AllPairs IsBefore lists → AllPairs (λ (a b : LevelList). a ≢ b) (map (level_list level) lists)
apart_in level [] h = λ i j d low within. absurd (omega (arith, within))
apart_in level (x ∷ xs) h =
    AllPairs-cons (λ a b. a ≢ b) (level_list level x) (map (level_list level) xs)
    (All-map (λ b. level_list level x ≢ b) (level_list level) xs
    (All-weaker (IsBefore x) (λ y. level_list level x ≢ level_list level y) (λ y before e. not_itself x (subst (IsBefore x) (sym (same_choices level x y e)) before)) xs (pairs_head IsBefore x xs h)))
    (apart_in level xs (pairs_tail IsBefore x xs h))

pub apart : (level : ℕ) (lists : List (List (List ℕ))) → EachLevel (λ n of_level. AllPairs IsBefore of_level) level lists → AllPairs (λ a b. a ≢ b) (named level lists)
unfolding named
apart level [] h = λ i j d low within. absurd (omega (arith, within))
apart level (lists ∷ more) h =
    pairs_append (λ a b. a ≢ b) (map (level_list level) lists) (named (level + 1) more) (apart_in level lists (here (λ n of_level. AllPairs IsBefore of_level) level lists more h))
    (apart (level + 1) more (later (λ n of_level. AllPairs IsBefore of_level) level lists more h))
    (All-map (λ a. All (λ b. a ≢ b) (named (level + 1) more)) (level_list level) lists (all_of (λ c. All (λ b. level_list level c ≢ b) (named (level + 1) more)) lists behind))
  where
    behind : (c : List ℕ) → All (λ b. level_list level c ≢ b) (named (level + 1) more)
    behind c =
        All-weaker (λ list. level + 1 ≤ list.level) (λ b. level_list level c ≢ b)
        (λ b above e. let same : level ≡ b.level = ap (λ (l : LevelList). l.level) e in omega (arith, above, same)) (named (level + 1) more) (from_level (level + 1) more)
