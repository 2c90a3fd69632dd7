-- The tokens of a text, and the fault of a text that has none.
use Rattle.std.specs.Prelude.{◌≡◌, ◌≢◌, ℕ, ◌+◌, ◌^◌, ◌≤◌, not, ℤ, pos, List, [], ◌∷◌, ◌++◌, slice_get, Some}
use Rattle.std.specs.List.{count_by, suffix_len}
use Rattle.pst_base.specs.declared.position.Place.{Place}
use Rattle.pst_base.specs.declared.table.NameId.{NameId}
use Rattle.pst_token.specs.declared.kind.Kind.{Kind}
use Rattle.pst_token.specs.declared.kind.Kind.TheVariants as kind
use Rattle.pst_token.specs.declared.token.Token.{Token}
use Rattle.pst_token.specs.Lexemes.{Lexeme, fixed, name, number}
use Rattle.pst_token.specs.Parts.{Part, blank, comment, lexeme, is_line_feed, bytes_of, text_of, MayStand, BeginsWith}

-- the place after these bytes of a file: lines and columns count from 1, columns in bytes
abbrev pub place_after : ℕ → List ℕ → Place
place_after file bytes = record {
  file = file;
  line = 1 + count_by is_line_feed bytes;
  column = 1 + suffix_len (λ b. not (is_line_feed b)) bytes;
}

-- the lexemes among the parts, each with its place; `before` stands before the parts
abbrev pub lexemes_after : ℕ → List ℕ → List Part → List (Lexeme × Place)
lexemes_after file before [] = []
lexemes_after file before (blank b ∷ parts) = lexemes_after file (before ++ b ∷ []) parts
lexemes_after file before (comment bytes ∷ parts) = lexemes_after file (before ++ bytes) parts
lexemes_after file before (lexeme l ∷ parts) =
    (l, place_after file before) ∷ lexemes_after file (before ++ bytes_of (lexeme l)) parts

abbrev pub lexemes_of : ℕ → List Part → List (Lexeme × Place)
lexemes_of file parts = lexemes_after file [] parts

-- a token that is no name has the name 0, and one that is no number has the number 0
abbrev pub token_of : Kind → ℕ → ℤ → Place → Token
token_of kind id value place = record { kind = kind; name = record { 0 = id }; number = value; place = place }

-- the token of a lexeme at a place; a name's text stands in the table of names under its number
abbrev pub IsTokenOf : List (List ℕ) → Lexeme → Place → Token → Type 0
IsTokenOf names (fixed kind) place token = token ≡ token_of kind 0 (pos 0) place
IsTokenOf names (name bytes) place token =
    (id : ℕ) × (slice_get names id ≡ Some bytes) × (token ≡ token_of kind.Name id (pos 0) place)
IsTokenOf names (number bytes value) place token = token ≡ token_of kind.Number 0 (pos value) place

-- one token for each lexeme, in order
abbrev pub AreTokensOf : List (List ℕ) → List (Lexeme × Place) → List Token → Type 0
AreTokensOf names [] [] = Unit {0}
AreTokensOf names (l ∷ lexemes) (token ∷ tokens) = IsTokenOf names l.0 l.1 token × AreTokensOf names lexemes tokens
AreTokensOf names _ _ = ⊥

-- no part begins here
abbrev pub BeginsNothing : List ℕ → Type 0
BeginsNothing text = (part : Part) (rest : List ℕ) → text ≡ bytes_of part ++ rest → MayStand part rest → ⊥

-- how the parts of a text end: with the text, where no part begins, or at a number that is too wide
pub data Ending : Type 0 where
  complete : Ending
  bad : Ending
  wide : Ending

abbrev pub EndsAs : Ending → List ℕ → Type 0
EndsAs complete rest = rest ≡ []
EndsAs bad rest = (rest ≢ []) × BeginsNothing rest
EndsAs wide rest =
    (bytes : List ℕ) × (value : ℕ) × (after : List ℕ)
    × (rest ≡ bytes ++ after) × MayStand (lexeme (number bytes value)) after × (2 ^ 63 ≤ value)

-- the text is these parts, and ends so where they end
pub record IsReading (text : List ℕ) (parts : List Part) (rest : List ℕ) (ending : Ending) : Type 0 where
  pub front : BeginsWith text parts rest
  pub ends : EndsAs ending rest

-- the tokens of a text, with `End` last, at the place after the last byte
pub record AreTokens (file : ℕ) (names : List (List ℕ)) (text : List ℕ) (tokens : List Token) : Type 0 where
  pub parts : List Part
  pub reading : IsReading text parts [] complete
  pub before_end : List Token
  pub each : AreTokensOf names (lexemes_of file parts) before_end
  pub all : tokens ≡ before_end ++ token_of kind.End 0 (pos 0) (place_after file text) ∷ []
