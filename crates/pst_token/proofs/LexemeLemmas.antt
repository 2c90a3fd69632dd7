-- A lexeme is either a run of letters, digits and `_`, or a mark; and how long the longest one is.
use Rattle.std.proofs.Common.{◌≡◌, ◌≢◌, ℕ, suc, ◌+◌, Bool, true, false, not, cond, ◌&&◌, ◌||◌, ◌⊎◌, inl, inr, List, [], ◌∷◌, ◌++◌, Option, Some, None, drop, slice_index, nat_eq, refl, ap, sym, subst, ◌∙◌, arith}
use Rattle.std.proofs.lemmas.Bool.{and_parts, and_from, or_cases, both_ways, eqb-true}
use Rattle.std.proofs.lemmas.Bool.Decides.{nat_tests}
use Rattle.std.specs.Char.{is_ascii_digit, is_ascii_hexdigit}
use Rattle.std.specs.Int.{is_in_range}
use Rattle.std.specs.List.{list_all}
use Rattle.std.specs.Str.Parse.{digits_value}
use Rattle.pst_token.specs.declared.kind.Kind.{Kind}
use Rattle.pst_token.specs.Spelling.{spelling_of}
use Rattle.pst_token.specs.Lexemes.{Lexeme, fixed, name, number, spelled, IsLexeme, IsName, is_word_byte, is_name_start, is_word, is_decimal, is_hexadecimal, number_of}
use Rattle.pst_token.specs.Parts.{GoesOnWith, IsLongest}
use Rattle.pst_token.proofs.Bytes.{is_nothing, is_mark_byte, is_mark, name_start_word_byte, digit_word_byte}
use Rattle.pst_token.proofs.Shapes.{spelling_shape}

-- letters, digits and `_`, at least one
abbrev pub is_run : List ℕ → Bool
is_run [] = false
is_run (b ∷ bytes) = is_word_byte b && list_all is_word_byte bytes

pub word_run : (word : List ℕ) → is_word word ≡ true → is_run word ≡ true
word_run [] h = h
word_run (b ∷ bytes) h =
    let parts = and_parts (is_name_start b) (list_all is_word_byte bytes) h in
    and_from (is_word_byte b) _ (name_start_word_byte b parts.0) parts.1

digits_run : (bytes : List ℕ) → list_all is_ascii_digit bytes ≡ true → list_all is_word_byte bytes ≡ true
digits_run [] h = refl
digits_run (b ∷ bytes) h =
    let parts = and_parts (is_ascii_digit b) (list_all is_ascii_digit bytes) h in
    and_from (is_word_byte b) _ (digit_word_byte b parts.0) (digits_run bytes parts.1)

hexadecimal_word_byte : (b : ℕ) → is_ascii_hexdigit b ≡ true → is_word_byte b ≡ true
hexadecimal_word_byte b digit = grind (arith, nat_tests)

hexadecimals_run : (bytes : List ℕ) → list_all is_ascii_hexdigit bytes ≡ true → list_all is_word_byte bytes ≡ true
hexadecimals_run [] h = refl
hexadecimals_run (b ∷ bytes) h =
    let parts = and_parts (is_ascii_hexdigit b) (list_all is_ascii_hexdigit bytes) h in
    and_from (is_word_byte b) _ (hexadecimal_word_byte b parts.0) (hexadecimals_run bytes parts.1)

-- the digit that a number begins with
pub record IsNumeric (bytes : List ℕ) : Type 0 where
  pub run : is_run bytes ≡ true
  pub digit : is_ascii_digit (slice_index bytes 0) ≡ true

decimal_numeric : (bytes : List ℕ) → is_decimal bytes ≡ true → IsNumeric bytes
decimal_numeric [] h = cc
decimal_numeric (b ∷ []) h = record { run = and_from (is_word_byte b) true (digit_word_byte b h) refl; digit = h }
decimal_numeric (b ∷ c ∷ bytes) h =
    let parts = and_parts (is_in_range 49 57 b) (list_all is_ascii_digit (c ∷ bytes)) h in
    let digit : is_ascii_digit b ≡ true = grind (arith, nat_tests) in
    record { run = and_from (is_word_byte b) _ (digit_word_byte b digit) (digits_run (c ∷ bytes) parts.1); digit = digit }

hexadecimal_numeric : (bytes : List ℕ) → is_hexadecimal bytes ≡ true → IsNumeric bytes
hexadecimal_numeric [] h = cc
hexadecimal_numeric (a ∷ []) h = cc
hexadecimal_numeric (a ∷ b ∷ []) h = cc
hexadecimal_numeric (a ∷ b ∷ c ∷ bytes) h =
    let parts = and_parts (nat_eq a 48 && nat_eq b 120) (list_all is_ascii_hexdigit (c ∷ bytes)) h in
    let front = and_parts (nat_eq a 48) (nat_eq b 120) parts.0 in
    let digit : is_ascii_digit a ≡ true = grind (arith, nat_tests) in
    let second : is_word_byte b ≡ true = grind (arith, nat_tests) in
    record {
      run = and_from (is_word_byte a) _ (digit_word_byte a digit) (and_from (is_word_byte b) _ second (hexadecimals_run (c ∷ bytes) parts.1));
      digit = digit;
    }

pub number_numeric : (bytes : List ℕ) (value : ℕ) → number_of bytes ≡ Some value → IsNumeric bytes
number_numeric bytes value h = by_hexadecimal (is_hexadecimal bytes) refl h
  where
    by_decimal : (t : Bool) → is_decimal bytes ≡ t → cond t (Some (digits_value 10 bytes)) None ≡ Some value → IsNumeric bytes
    by_decimal true d e = decimal_numeric bytes d
    by_decimal false d e = cc

    by_hexadecimal : (t : Bool) → is_hexadecimal bytes ≡ t
        → cond t (Some (digits_value 16 (drop 2 bytes))) (cond (is_decimal bytes) (Some (digits_value 10 bytes)) None) ≡ Some value → IsNumeric bytes
    by_hexadecimal true x e = hexadecimal_numeric bytes x
    by_hexadecimal false x e = by_decimal (is_decimal bytes) refl e

-- a lexeme is a run or a mark
pub lexeme_shape : (l : Lexeme) → IsLexeme l → (is_run (spelled l) ≡ true) ⊎ (is_mark (spelled l) ≡ true)
lexeme_shape (fixed k) some = by_shape (spelling_of k) some (spelling_shape k)
  where
    by_shape : (bytes : List ℕ) → bytes ≢ [] → ((is_nothing bytes || is_word bytes) || is_mark bytes) ≡ true → (is_run bytes ≡ true) ⊎ (is_mark bytes ≡ true)
    by_shape [] s h = absurd (s refl)
    by_shape (b ∷ bytes) s h =
        elim (or_cases (is_word (b ∷ bytes)) (is_mark (b ∷ bytes)) h) [
          | inl word ↦ inl (word_run (b ∷ bytes) word)
          | inr mark ↦ inr mark
        ]
lexeme_shape (name bytes) h = inl (word_run bytes h.word)
lexeme_shape (number bytes value) h = inl (number_numeric bytes value h).run

-- what a mark begins with begins no run
pub mark_no_run : (b : ℕ) (bytes : List ℕ) → is_mark (b ∷ bytes) ≡ true → is_word_byte b ≡ true → ⊥
mark_no_run b [] mark word = both_ways (is_word_byte b) (grind arith) word
mark_no_run b (c ∷ []) mark word = both_ways (is_word_byte b) (grind arith) word
mark_no_run b (c ∷ d ∷ bytes) mark word = cc

all_after : (run : List ℕ) (b : ℕ) (more : List ℕ) → list_all is_word_byte (run ++ b ∷ more) ≡ true → is_word_byte b ≡ true
all_after [] b more h = (and_parts (is_word_byte b) _ h).0
all_after (a ∷ run) b more h = all_after run b more (and_parts (is_word_byte a) _ h).1

-- a run that what follows it ends is the longest lexeme there
pub longest_run : (run rest : List ℕ) → is_run run ≡ true → GoesOnWith (λ b. not (is_word_byte b)) rest → IsLongest run rest
longest_run [] rest h ends other more after is_lexeme spells goes_on = cc
longest_run (a ∷ run) rest h ends other [] after is_lexeme spells goes_on = refl
longest_run (a ∷ run) [] h ends other (m ∷ more) after is_lexeme spells goes_on = cc
longest_run (a ∷ run) (b ∷ rest) h ends other (m ∷ more) after is_lexeme spells goes_on =
    let same : b ≡ m = cc in
    let no_word : is_word_byte m ≡ false = rw (← same) (grind arith) in
    absurd
    (elim (lexeme_shape other is_lexeme) [
      | inl is_one ↦
          let all : is_run (a ∷ (run ++ m ∷ more)) ≡ true = rw spells at is_one in
          both_ways (is_word_byte m) no_word (all_after run m more (and_parts (is_word_byte a) _ all).1)
      | inr mark ↦ mark_no_run a (run ++ m ∷ more) (rw spells at mark) (and_parts (is_word_byte a) _ h).0
    ])
