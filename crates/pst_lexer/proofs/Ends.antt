-- Where a run of bytes of one class ends.
use Rattle.std.proofs.Common.{◌≡◌, ℕ, suc, ◌+◌, ◌<◌, ◌≤◌, Bool, true, false, not, List, [], ◌∷◌, length, get_or, take, drop, refl, ap, sym, subst, ◌∙◌, arith, add-one, drop-cons}
use Rattle.std.specs.List.{list_all}
use Rattle.std.proofs.lemmas.List.Folds.{list_all_more}
use Rattle.std.proofs.lemmas.Bool.{and_from}
use Rattle.pst_token.specs.Parts.{GoesOnWith}

-- one byte more
pub run_more : (passes : ℕ → Bool) (bytes : List ℕ) (i : ℕ) → i < length bytes → list_all passes (take i bytes) ≡ true → passes (get_or bytes i 0) ≡ true → list_all passes (take (i + 1) bytes) ≡ true
run_more passes bytes i within before here = list_all_more passes bytes i 0 within ∙ and_from _ _ before here

-- the run ends at a byte of the other class
pub ends_at : (passes : ℕ → Bool) (bytes : List ℕ) (i : ℕ) → i < length bytes → passes (get_or bytes i 0) ≡ true → GoesOnWith passes (drop i bytes)
ends_at passes bytes i within here = rw (drop-cons bytes i 0) here

-- the run ends with the bytes
pub ends_last : (passes : ℕ → Bool) (bytes : List ℕ) → GoesOnWith passes (drop (length bytes) bytes)
ends_last passes [] = tt
ends_last passes (b ∷ bytes) = ends_last passes bytes
