-- Names are text.
use Rattle.std.proofs.Common.{◌≡◌, ℕ, ◌<◌, true, List, [], ◌∷◌, refl, arith}
use Rattle.std.specs.List.{list_all}
use Rattle.std.specs.Str.{IsAscii, IsUtf8}
use Rattle.std.proofs.lemmas.Bool.{and_parts, and_from}
use Rattle.std.proofs.lemmas.Bool.Decides.{nat_tests}
use Rattle.std.proofs.lemmas.Str.{IsUtf8-from_ascii}
use Rattle.std.proofs.lemmas.Str.Ascii.{IsAscii-nil, IsAscii-cons}
use Rattle.pst_token.specs.Lexemes.{is_name_start, is_word_byte, is_word, IsName}
use Rattle.pst_token.proofs.Bytes.{name_start_word_byte}

word_below : (b : ℕ) → is_word_byte b ≡ true → b < 128
word_below b h = grind (arith, nat_tests)

word_ascii : (name : List ℕ) → list_all is_word_byte name ≡ true → IsAscii name
word_ascii [] h = IsAscii-nil
word_ascii (b ∷ name) h =
    let parts = and_parts (is_word_byte b) (list_all is_word_byte name) h in
    IsAscii-cons b name (word_below b parts.0) (word_ascii name parts.1)

word_bytes : (name : List ℕ) → is_word name ≡ true → list_all is_word_byte name ≡ true
word_bytes [] h = refl
word_bytes (b ∷ more) h =
    let both = and_parts (is_name_start b) (list_all is_word_byte more) h in and_from _ _ (name_start_word_byte b both.0) both.1

pub name_text : (name : List ℕ) → IsName name → IsUtf8 name
name_text name is = IsUtf8-from_ascii name (word_ascii name (word_bytes name is.word))
