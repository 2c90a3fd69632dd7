-- How many variables are marked.
use Rattle.std.proofs.Common.{◌≡◌, ℕ, zero, suc, ◌+◌, ◌<◌, ◌≤◌, List, [], ◌∷◌, ◌++◌, length, length-set, set, Bool, true, false, Some, refl, ap, subst, arith}
use Rattle.std.specs.Prelude.{slice_get}
use Rattle.std.proofs.lemmas.Option.{slice_get_within}
use Rattle.pst_reasons.proofs.MarkLemmas.{some_is}
use Rattle.pst_reasons.specs.Marks.{marked_in, IsMarked}

pub counted_bare : (xs : List Bool) → marked_in (xs ++ false ∷ []) ≡ marked_in xs
counted_bare [] = refl
counted_bare (true ∷ xs) = ap suc (counted_bare xs)
counted_bare (false ∷ xs) = counted_bare xs

pub counted_put : (xs : List Bool) (i : ℕ) → slice_get xs i ≡ Some false → marked_in (set xs i true) ≡ marked_in xs + 1
counted_put [] i e = absurd cc
counted_put (true ∷ xs) zero e = absurd cc
counted_put (false ∷ xs) zero e = omega arith
counted_put (true ∷ xs) (suc i) e = let more = counted_put xs i e in omega (arith, more)
counted_put (false ∷ xs) (suc i) e = counted_put xs i e

pub counted_taken : (xs : List Bool) (i : ℕ) → slice_get xs i ≡ Some true → marked_in xs ≡ marked_in (set xs i false) + 1
counted_taken [] i e = absurd cc
counted_taken (true ∷ xs) zero e = omega arith
counted_taken (false ∷ xs) zero e = absurd cc
counted_taken (true ∷ xs) (suc i) e = let more = counted_taken xs i e in omega (arith, more)
counted_taken (false ∷ xs) (suc i) e = counted_taken xs i e

counted_few : (xs : List Bool) → marked_in xs ≤ length xs
counted_few [] = omega arith
counted_few (true ∷ xs) = let more = counted_few xs in omega (arith, more)
counted_few (false ∷ xs) = let more = counted_few xs in omega (arith, more)

pub counted_none : (xs : List Bool) → marked_in xs ≡ 0 → (v : ℕ) → IsMarked xs v → ⊥
counted_none [] e v m = absurd cc
counted_none (true ∷ xs) e v m = absurd (omega (arith, e))
counted_none (false ∷ xs) e zero m = absurd cc
counted_none (false ∷ xs) e (suc v) m = counted_none xs e v m

pub bare_is : (xs : List Bool) (v : ℕ) → v < length xs → (IsMarked xs v → ⊥) → slice_get xs v ≡ Some false
bare_is [] v small n = absurd (omega arith)
bare_is (true ∷ xs) zero small n = absurd (n refl)
bare_is (false ∷ xs) zero small n = refl
bare_is (x ∷ xs) (suc v) small n = bare_is xs v (omega arith) n

pub put_again : (xs : List Bool) (v : ℕ) → IsMarked xs v → xs ≡ set xs v true
put_again [] v m = refl
put_again (x ∷ xs) zero m = ap (λ b. b ∷ xs) (some_is x true m)
put_again (x ∷ xs) (suc v) m = ap (λ ys. x ∷ ys) (put_again xs v m)

pub flag_set : (xs : List Bool) (v : ℕ) (b : Bool) → slice_get xs v ≡ Some b → b ≡ true → IsMarked xs v
flag_set xs v b at is = subst (λ z. slice_get xs v ≡ Some z) is at

pub no_flag : (xs : List Bool) (v : ℕ) → false ≡ true → IsMarked xs v
no_flag xs v e = absurd cc

pub marked_within : (xs : List Bool) (v : ℕ) → IsMarked xs v → v < length xs
marked_within xs v m = slice_get_within xs v true m

-- one more can be marked
pub counted_room : (xs : List Bool) (i : ℕ) → slice_get xs i ≡ Some false → marked_in xs < length xs
counted_room xs i e =
    let one = counted_put xs i e in
    let few = counted_few (set xs i true) in
    let long = length-set xs i true in
    omega (arith, one, few, long)
