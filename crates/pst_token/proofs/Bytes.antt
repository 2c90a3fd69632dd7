-- Classes of bytes, and runs of bytes of one class.
use Rattle.std.proofs.Common.{◌≡◌, ℕ, Bool, true, false, not, cond, ◌&&◌, ◌||◌, List, [], ◌∷◌, ◌++◌, refl, ap, sym, ◌∙◌, arith, codes, nat_eq}
use Rattle.std.proofs.lemmas.Bool.{and_parts, not-true}
use Rattle.std.proofs.lemmas.Bool.Decides.{nat_tests}
use Rattle.std.specs.List.{list_all, starts_with}
use Rattle.std.specs.Char.{is_ascii_digit}
use Rattle.pst_token.specs.Lexemes.{is_word_byte, is_name_start, is_word}
use Rattle.pst_token.specs.Parts.{is_blank, GoesOnWith, begins_comment}

abbrev pub is_nothing : List ℕ → Bool
is_nothing [] = true
is_nothing _ = false

-- a byte that begins neither a word nor a blank
abbrev pub is_mark_byte : ℕ → Bool
is_mark_byte b = not (is_word_byte b) && not (is_blank b)

-- one or two bytes, the first of which is such a byte
abbrev pub is_mark : List ℕ → Bool
is_mark (b ∷ []) = is_mark_byte b
is_mark (b ∷ c ∷ []) = is_mark_byte b
is_mark _ = false

pub word_byte_no_blank : (b : ℕ) → is_word_byte b ≡ true → is_blank b ≡ false
word_byte_no_blank b word = grind (arith, nat_tests)

pub name_start_word_byte : (b : ℕ) → is_name_start b ≡ true → is_word_byte b ≡ true
name_start_word_byte b start = grind (arith, nat_tests)

pub digit_word_byte : (b : ℕ) → is_ascii_digit b ≡ true → is_word_byte b ≡ true
digit_word_byte b digit = grind (arith, nat_tests)

pub name_start_no_digit : (b : ℕ) → is_name_start b ≡ true → is_ascii_digit b ≡ false
name_start_no_digit b start = grind (arith, nat_tests)

pub word_byte_name_start : (b : ℕ) → is_word_byte b ≡ true → is_ascii_digit b ≡ false → is_name_start b ≡ true
word_byte_name_start b word no_digit = grind (arith, nat_tests)

pub word_byte_no_slash : (b : ℕ) → is_word_byte b ≡ true → nat_eq 47 b ≡ false
word_byte_no_slash b word = grind (arith, nat_tests)

pub mark_byte_no_word : (b : ℕ) → is_mark_byte b ≡ true → is_word_byte b ≡ false
mark_byte_no_word b mark = not-true (is_word_byte b) (and_parts (not (is_word_byte b)) (not (is_blank b)) mark).0
