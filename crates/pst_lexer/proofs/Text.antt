-- Letters, digits and `_` are text.
use Rattle.std.proofs.Common.{◌≡◌, ℕ, suc, ◌+◌, ◌<◌, Bool, true, false, ◌&&◌, List, [], ◌∷◌, length, get_or, refl, arith}
use Rattle.std.specs.List.{list_all}
use Rattle.std.specs.Str.{IsAscii, IsUtf8}
use Rattle.std.proofs.lemmas.Bool.{and_parts}
use Rattle.std.proofs.lemmas.Bool.Decides.{nat_tests}
use Rattle.std.proofs.lemmas.Str.{IsUtf8-from_ascii}
use Rattle.std.proofs.lemmas.Str.Ascii.{IsAscii-nil, IsAscii-cons}
use Rattle.pst_token.specs.Lexemes.{is_word_byte}

word_byte_ascii : (b : ℕ) → is_word_byte b ≡ true → b < 128
word_byte_ascii b h = grind (arith, nat_tests)

word_ascii : (word : List ℕ) → list_all is_word_byte word ≡ true → IsAscii word
word_ascii [] h = IsAscii-nil
word_ascii (b ∷ word) h =
    let parts = and_parts (is_word_byte b) (list_all is_word_byte word) h in
    IsAscii-cons b word (word_byte_ascii b parts.0) (word_ascii word parts.1)

pub word_text : (word : List ℕ) → list_all is_word_byte word ≡ true → IsUtf8 word
word_text word h = IsUtf8-from_ascii word (word_ascii word h)
