-- Lexemes: what a token is apart from its place. A text is a list of bytes.
use Rattle.std.specs.Prelude.{◌≡◌, ◌≢◌, ℕ, Bool, true, false, ◌||◌, ◌&&◌, ◌==◌, if◌then◌else◌, List, [], ◌∷◌, drop, Option, Some, None, IsTrue}
use Rattle.std.specs.Char.{is_ascii_digit, is_ascii_hexdigit, is_ascii_alphabetic, is_ascii_alphanumeric}
use Rattle.std.specs.Int.{is_in_range}
use Rattle.std.specs.List.{list_all}
use Rattle.std.specs.Str.{byte}
use Rattle.std.specs.Str.Parse.{digits_value}
use Rattle.pst_token.specs.declared.kind.Kind.{Kind}
use Rattle.pst_token.specs.Spelling.{spelling_of}

-- a byte that a name may begin with: a letter or `_`
abbrev pub is_name_start : ℕ → Bool
is_name_start b = is_ascii_alphabetic b || b == byte "_"

-- a byte of a name or a number: a letter, a digit or `_`
abbrev pub is_word_byte : ℕ → Bool
is_word_byte b = is_ascii_alphanumeric b || b == byte "_"

-- a letter or `_`, then letters, digits and `_`
abbrev pub is_word : List ℕ → Bool
is_word [] = false
is_word (first ∷ more) = is_name_start first && list_all is_word_byte more

-- such a word that is no reserved word
pub record IsName (bytes : List ℕ) : Type 0 where
  pub word : IsTrue (is_word bytes)
  pub free : (kind : Kind) → spelling_of kind ≢ bytes

-- `0`, or a digit from 1 to 9 and further digits
abbrev pub is_decimal : List ℕ → Bool
is_decimal [] = false
is_decimal (digit ∷ []) = is_ascii_digit digit
is_decimal (first ∷ digit ∷ digits) = is_in_range (byte "1") (byte "9") first && list_all is_ascii_digit (digit ∷ digits)

-- `0x` and at least one hexadecimal digit, of either case
abbrev pub is_hexadecimal : List ℕ → Bool
is_hexadecimal (first ∷ second ∷ digit ∷ digits) =
    (first == byte "0" && second == byte "x") && list_all is_ascii_hexdigit (digit ∷ digits)
is_hexadecimal _ = false

-- the value of a number; what isn't spelled as one has none
abbrev pub number_of : List ℕ → Option ℕ
number_of bytes =
    if is_hexadecimal bytes then Some (digits_value 16 (drop 2 bytes))
    else (if is_decimal bytes then Some (digits_value 10 bytes) else None)

-- a reserved word or a mark, a name, or a number with its value
pub data Lexeme : Type 0 where
  fixed : Kind → Lexeme
  name : List ℕ → Lexeme
  number : List ℕ → ℕ → Lexeme

abbrev pub spelled : Lexeme → List ℕ
spelled (fixed kind) = spelling_of kind
spelled (name bytes) = bytes
spelled (number bytes value) = bytes

-- the lexeme has this spelling by the rules above
abbrev pub IsLexeme : Lexeme → Type 0
IsLexeme (fixed kind) = spelling_of kind ≢ []
IsLexeme (name bytes) = IsName bytes
IsLexeme (number bytes value) = number_of bytes ≡ Some value
