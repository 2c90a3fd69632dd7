-- Names are printed.
use Rattle.std.proofs.Common.{◌≡◌, ℕ, List, [], ◌∷◌, true, refl, arith}
use Rattle.std.specs.List.{list_all}
use Rattle.std.proofs.lemmas.Bool.{and_parts, and_from}
use Rattle.std.proofs.lemmas.Bool.Decides.{nat_tests}
use Rattle.std.proofs.lemmas.List.Elements.{All-weaker}
use Rattle.pst_token.specs.Lexemes.{is_name_start, is_word_byte, is_word, IsName}
use Rattle.pst_token.proofs.Bytes.{name_start_word_byte}
use Rattle.pst_trace_lines.specs.Headers.{is_printed}
use Rattle.pst_own_names.specs.Names.{NamesOfTextsAreNames}
use Rattle.pst_printed_answers.specs.Names.{LexedNamesArePrinted}

byte_printed : (b : ℕ) → is_word_byte b ≡ true → is_printed b ≡ true
byte_printed b word = grind (arith, nat_tests)

bytes_printed : (bytes : List ℕ) → list_all is_word_byte bytes ≡ true → list_all is_printed bytes ≡ true
bytes_printed [] all = refl
bytes_printed (b ∷ bytes) all =
    let both = and_parts (is_word_byte b) (list_all is_word_byte bytes) all in
    and_from (is_printed b) (list_all is_printed bytes) (byte_printed b both.0) (bytes_printed bytes both.1)

word_printed : (bytes : List ℕ) → is_word bytes ≡ true → list_all is_printed bytes ≡ true
word_printed [] word = refl
word_printed (b ∷ bytes) word =
    let both = and_parts (is_name_start b) (list_all is_word_byte bytes) word in
    and_from (is_printed b) (list_all is_printed bytes) (byte_printed b (name_start_word_byte b both.0)) (bytes_printed bytes both.1)

pub lexed_printed : NamesOfTextsAreNames → LexedNamesArePrinted
lexed_printed law texts names tokens lexed = All-weaker IsName (λ (name : List ℕ). list_all is_printed name ≡ true) (λ name is. word_printed name is.word) names (law texts names tokens lexed.are)
