-- The words of a root.
use Rattle.std.proofs.Common.{arith, sym, subst, refl, ap, ◌∙◌, ◌≡◌, ◌<◌, ◌+◌, ℕ, suc, List, [], ◌∷◌, ◌++◌, true, false, length, take, drop, get_or, codes}
use Rattle.std.proofs.lemmas.Bool.{and_parts, and_from}
use Rattle.std.proofs.Math.Seq.{drop-cons, take-append_seam, drop-append_seam}
use Rattle.std.specs.List.{list_all, take_while}
use Rattle.pst_token.specs.Lexemes.{is_name_start, is_word_byte, is_word}
use Rattle.pst_token.proofs.Runs.{take_while-yes, take_while-no, take_while-run}
use Rattle.pst_token.proofs.Bytes.{name_start_word_byte}
use Rattle.pst_words.specs.Table.{IsRoot}

-- one more byte of a word
pub run_more : (text : List ℕ) (i : ℕ) → i < length text → is_word_byte (get_or text i 0) ≡ true
    → length (take_while is_word_byte (drop i text)) ≡ 1 + length (take_while is_word_byte (drop (i + 1) text))
run_more text i h yes_it =
    let next : length (take_while is_word_byte (drop (suc i) text)) ≡ length (take_while is_word_byte (drop (i + 1) text)) = ap (λ k. length (take_while is_word_byte (drop k text))) (let e : suc i ≡ i + 1 = omega arith in e) in
    let here : length (take_while is_word_byte (drop i text)) ≡ length (get_or text i 0 ∷ take_while is_word_byte (drop (suc i) text)) =
    ap (λ t. length (take_while is_word_byte t)) (drop-cons text i 0 h) ∙ ap length (take_while-yes is_word_byte (get_or text i 0) (drop (suc i) text) yes_it) in
    omega (arith, here, next)

-- the word ends
pub run_ends : (text : List ℕ) (i : ℕ) → i < length text → is_word_byte (get_or text i 0) ≡ false → length (take_while is_word_byte (drop i text)) ≡ 0
run_ends text i h no_it =
    ap (λ t. length (take_while is_word_byte t)) (drop-cons text i 0 h) ∙ ap length (take_while-no is_word_byte (get_or text i 0) (drop (suc i) text) no_it)

bytes_of_name : (name : List ℕ) → is_word name ≡ true → list_all is_word_byte name ≡ true
bytes_of_name [] h = refl
bytes_of_name (b ∷ more) h =
    let both = and_parts (is_name_start b) (list_all is_word_byte more) h in and_from _ _ (name_start_word_byte b both.0) both.1

-- what stands before the first byte that is none of a word, and from there on
pub root_parts : (text : List ℕ) (h : IsRoot text) (n : ℕ) → n ≡ length (take_while is_word_byte text) → (take n text ≡ h.component) × (drop n text ≡ codes "::" ++ h.action)
root_parts text h n is =
    let run : take_while is_word_byte (h.component ++ (codes "::" ++ h.action)) ≡ h.component =
    take_while-run is_word_byte h.component (codes "::" ++ h.action) (bytes_of_name h.component h.component_is_name.word) refl in
    let long : n ≡ length h.component = is ∙ ap (λ t. length (take_while is_word_byte t)) h.are ∙ ap length run in (
      subst (λ (t : List ℕ). take n t ≡ h.component) (sym h.are) (subst (λ k. take k (h.component ++ (codes "::" ++ h.action)) ≡ h.component) (sym long) (take-append_seam h.component (codes "::" ++ h.action))),
      subst (λ (t : List ℕ). drop n t ≡ codes "::" ++ h.action) (sym h.are) (subst (λ k. drop k (h.component ++ (codes "::" ++ h.action)) ≡ codes "::" ++ h.action) (sym long) (drop-append_seam h.component (codes "::" ++ h.action))),
    )
