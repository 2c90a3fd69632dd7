-- The longest front of a text whose bytes all pass a test.
use Rattle.std.proofs.Common.{◌≡◌, ℕ, suc, ◌+◌, Bool, true, false, not, cond, ◌&&◌, List, [], ◌∷◌, ◌++◌, take, drop, refl, ap, sym, ◌∙◌, arith, add-one}
use Rattle.std.proofs.lemmas.Bool.{and_parts, and_from}
use Rattle.std.specs.List.{list_all, take_while, prefix_len}
use Rattle.std.proofs.lemmas.List.Sums.{take_while-cons}
use Rattle.pst_token.specs.Parts.{GoesOnWith}

pub take_while-yes : (p : ℕ → Bool) (b : ℕ) (bytes : List ℕ) → p b ≡ true → take_while p (b ∷ bytes) ≡ b ∷ take_while p bytes
take_while-yes p b bytes passes = take_while-cons p b bytes ∙ rw passes refl

pub take_while-no : (p : ℕ → Bool) (b : ℕ) (bytes : List ℕ) → p b ≡ false → take_while p (b ∷ bytes) ≡ []
take_while-no p b bytes fails = take_while-cons p b bytes ∙ rw fails refl

-- a run that what follows it ends is the longest one
pub take_while-run : (p : ℕ → Bool) (run rest : List ℕ) → list_all p run ≡ true → GoesOnWith (λ b. not (p b)) rest → take_while p (run ++ rest) ≡ run
take_while-run p [] [] all ends = refl
take_while-run p [] (b ∷ rest) all ends = take_while-no p b rest (grind arith)
take_while-run p (b ∷ run) rest all ends =
    let both = and_parts (p b) (list_all p run) all in
    take_while-yes p b (run ++ rest) both.0 ∙ (ap (λ bs. b ∷ bs) (take_while-run p run rest both.1 ends))

pub list_all-take_while : (p : ℕ → Bool) (bytes : List ℕ) → list_all p (take_while p bytes) ≡ true
list_all-take_while p [] = refl
list_all-take_while p (b ∷ bytes) = by_test (p b) refl (list_all-take_while p bytes)
  where
    by_test : (t : Bool) → p b ≡ t → list_all p (take_while p bytes) ≡ true → list_all p (take_while p (b ∷ bytes)) ≡ true
    by_test true h later = ap (list_all p) (take_while-yes p b bytes h) ∙ and_from _ _ h later
    by_test false h later = ap (list_all p) (take_while-no p b bytes h)

pub ends-take_while : (p : ℕ → Bool) (bytes : List ℕ) → GoesOnWith (λ b. not (p b)) (drop (prefix_len p bytes) bytes)
ends-take_while p [] = tt
ends-take_while p (b ∷ bytes) = by_test (p b) refl (ends-take_while p bytes)
  where
    by_test : (t : Bool) → p b ≡ t → GoesOnWith (λ b. not (p b)) (drop (prefix_len p bytes) bytes) → GoesOnWith (λ b. not (p b)) (drop (prefix_len p (b ∷ bytes)) (b ∷ bytes))
    by_test true h later = let more : cond true (1 + prefix_len p bytes) 0 ≡ suc (prefix_len p bytes) = omega arith in rw (h, more) later
    by_test false h later = rw h (ap not h)
