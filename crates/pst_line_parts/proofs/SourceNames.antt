-- The names of sources by number.
use Rattle.std.proofs.Common.{◌≡◌, ◌∙◌, ℕ, suc, zero, ◌+◌, ◌-◌, ◌≤◌, Bool, true, false, List, [], ◌∷◌, ◌++◌, length, get_or, drop, map, refl, ap, sym, subst, arith, cond, codes}
use Rattle.std.specs.Prelude.{Some, slice_get}
use Rattle.std.specs.List.{filter}
use Rattle.pst_words.specs.Lines.{is_file}
use Rattle.pst_files_read.specs.Files.{sources_in}

-- the words from a place on, as bytes
pub dropped : {A : Type 0} (f : A → List ℕ) (xs : List A) (i : ℕ) (x : A) → slice_get xs i ≡ Some x → drop i (map f xs) ≡ f x ∷ drop (i + 1) (map f xs)
dropped f [] zero x h = absurd (cc)
dropped f [] (suc i) x h = absurd (cc)
dropped f (y ∷ xs) zero x h = let same : y ≡ x = cc in ap (λ z. f z ∷ map f xs) same
dropped f (y ∷ xs) (suc i) x h = let e : suc (i + 1) ≡ suc i + 1 = omega arith in dropped f xs i x h ∙ ap (λ k. f x ∷ drop k (f y ∷ map f xs)) e

-- a word that names no source is passed over
pub passed : (words : List (List ℕ)) (i left : ℕ) (word : List ℕ) → drop i words ≡ word ∷ drop (i + 1) words → is_file word ≡ false
    → get_or (sources_in (drop i words)) left (codes "root") ≡ get_or (sources_in (drop (i + 1) words)) left (codes "root")
passed words i left word split no_file =
    ap (λ (ws : List (List ℕ)). get_or (sources_in ws) left (codes "root")) split
    ∙ ap (λ b. get_or (cond b (word ∷ filter is_file (drop (i + 1) words)) (filter is_file (drop (i + 1) words))) left (codes "root")) no_file

-- one that does is counted
pub counted : (words : List (List ℕ)) (i left : ℕ) (word : List ℕ) → drop i words ≡ word ∷ drop (i + 1) words → is_file word ≡ true
    → get_or (sources_in (drop i words)) left (codes "root") ≡ get_or (word ∷ sources_in (drop (i + 1) words)) left (codes "root")
counted words i left word split file =
    ap (λ (ws : List (List ℕ)). get_or (sources_in ws) left (codes "root")) split
    ∙ ap (λ b. get_or (cond b (word ∷ filter is_file (drop (i + 1) words)) (filter is_file (drop (i + 1) words))) left (codes "root")) file

-- where others stand before it
pub behind : (x : List ℕ) (xs : List (List ℕ)) (left : ℕ) → (left ≡ 0 → ⊥) → get_or (x ∷ xs) left (codes "root") ≡ get_or xs (left - 1) (codes "root")
behind x xs zero some = absurd (some refl)
behind x xs (suc left) some = let e : suc left - 1 ≡ left = omega arith in ap (λ n. get_or xs n (codes "root")) (sym e)

-- a word by its place
pub word_at : {A : Type 0} (f : A → List ℕ) (xs : List A) (i : ℕ) (x : A) → slice_get xs i ≡ Some x → get_or (map f xs) i [] ≡ f x
word_at f [] zero x h = absurd (cc)
word_at f [] (suc i) x h = absurd (cc)
word_at f (y ∷ xs) zero x h = let same : y ≡ x = cc in ap f same
word_at f (y ∷ xs) (suc i) x h = word_at f xs i x h

pub no_word_at : {A : Type 0} (f : A → List ℕ) (xs : List A) (i : ℕ) → length xs ≤ i → get_or (map f xs) i [] ≡ []
no_word_at f [] i h = refl
no_word_at f (y ∷ xs) zero h = absurd (omega (arith, h))
no_word_at f (y ∷ xs) (suc i) h = no_word_at f xs i (omega (arith, h))
