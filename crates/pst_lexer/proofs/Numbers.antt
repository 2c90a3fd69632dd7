-- The value of a number, and what the digits of one are.
use Rattle.std.proofs.Common.{◌≡◌, ℕ, ◌+◌, ◌-◌, ◌^◌, ◌<◌, ◌≤◌, Bool, true, false, cond, ◌&&◌, List, [], ◌∷◌, length, take, drop, Option, Some, None, MatchOption, ℤ, pos, nat_eq, refl, ap, sym, subst, ◌∙◌, arith}
use Rattle.std.proofs.lemmas.Bool.{and_parts, cond-true, cond-false}
use Rattle.std.proofs.lemmas.Bool.Decides.{nat_tests}
use Rattle.std.proofs.lemmas.List.{take_rest}
use Rattle.std.specs.Char.{digit_value, is_ascii_digit, is_ascii_hexdigit}
use Rattle.std.specs.Int.{is_in_range}
use Rattle.std.specs.List.{list_all}
use Rattle.std.specs.Str.Parse.{digits_value, IsNumeral, AllDigits}
use Rattle.pst_token.specs.Lexemes.{is_decimal, is_hexadecimal, number_of}
use Rattle.pst_lexer.specs.declared.find.Found.{Found}
use Rattle.pst_lexer.specs.declared.find.Found.TheVariants as found
use Rattle.pst_lexer.specs.Finding.{TellsNumber}

decimal_digit : (c : ℕ) → is_ascii_digit c ≡ true → digit_value c < 10
decimal_digit c h = grind (arith, nat_tests)

hexadecimal_digit : (c : ℕ) → is_ascii_hexdigit c ≡ true → digit_value c < 16
hexadecimal_digit c h = grind (arith, nat_tests)

all_decimal : (bytes : List ℕ) → list_all is_ascii_digit bytes ≡ true → AllDigits 10 bytes
all_decimal [] h = tt
all_decimal (c ∷ bytes) h =
    let parts = and_parts (is_ascii_digit c) (list_all is_ascii_digit bytes) h in
    (decimal_digit c parts.0, all_decimal bytes parts.1)

all_hexadecimal : (bytes : List ℕ) → list_all is_ascii_hexdigit bytes ≡ true → AllDigits 16 bytes
all_hexadecimal [] h = tt
all_hexadecimal (c ∷ bytes) h =
    let parts = and_parts (is_ascii_hexdigit c) (list_all is_ascii_hexdigit bytes) h in
    (hexadecimal_digit c parts.0, all_hexadecimal bytes parts.1)

pub decimal_numeral : (word : List ℕ) → is_decimal word ≡ true → IsNumeral 10 word
decimal_numeral [] h = cc
decimal_numeral (c ∷ []) h = (omega arith, (decimal_digit c h, tt))
decimal_numeral (c ∷ d ∷ bytes) h =
    let parts = and_parts (is_in_range 49 57 c) (list_all is_ascii_digit (d ∷ bytes)) h in
    let first : digit_value c < 10 = grind (arith, nat_tests) in
    (omega arith, (first, all_decimal (d ∷ bytes) parts.1))

pub hexadecimal_numeral : (word : List ℕ) → is_hexadecimal word ≡ true → IsNumeral 16 (drop 2 word)
hexadecimal_numeral [] h = cc
hexadecimal_numeral (a ∷ []) h = cc
hexadecimal_numeral (a ∷ b ∷ []) h = cc
hexadecimal_numeral (a ∷ b ∷ c ∷ bytes) h =
    let parts = and_parts (nat_eq a 48 && nat_eq b 120) (list_all is_ascii_hexdigit (c ∷ bytes)) h in
    (omega arith, all_hexadecimal (c ∷ bytes) parts.1)

pub digits_of : (word : List ℕ) → take (length word - 2) (drop 2 word) ≡ drop 2 word
digits_of word = take_rest word 2

pub hexadecimal_number : (word : List ℕ) → is_hexadecimal word ≡ true → number_of word ≡ Some (digits_value 16 (drop 2 word))
hexadecimal_number word h = cond-true (is_hexadecimal word) _ _ h

pub decimal_number : (word : List ℕ) → is_hexadecimal word ≡ false → is_decimal word ≡ true → number_of word ≡ Some (digits_value 10 word)
decimal_number word no_hexadecimal h = cond-false (is_hexadecimal word) _ _ no_hexadecimal ∙ cond-true (is_decimal word) _ _ h

pub no_number : (word : List ℕ) → is_hexadecimal word ≡ false → is_decimal word ≡ false → number_of word ≡ None
no_number word no_hexadecimal no_decimal = cond-false (is_hexadecimal word) _ _ no_hexadecimal ∙ cond-false (is_decimal word) _ _ no_decimal

-- the answer that a value gives
pub tells_number : (word : List ℕ) (n : ℕ) (value : Option ℤ) (r : Found) → number_of word ≡ Some n
    → MatchOption value (2 ^ 63 ≤ n) (λ v. (v ≡ pos n) × (n < 2 ^ 63)) → MatchOption value (r ≡ found.Wide) (λ v. r ≡ found.Number v (length word)) → TellsNumber word r
tells_number word n None r is above wide = subst (TellsNumber word) (sym wide) (n, above, is)
tells_number word n (Some v) r is (same, below) narrow = subst (TellsNumber word) (sym narrow) (n, same, below, refl, is)
