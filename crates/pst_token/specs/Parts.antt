-- The parts that a text is made of: blanks, comments and lexemes, each the longest at its place.
use Rattle.std.specs.Prelude.{◌≡◌, ℕ, ◌^◌, ◌<◌, ◌⊎◌, Bool, true, false, not, ◌||◌, ◌==◌, List, [], ◌∷◌, ◌++◌, codes, nat_eq, IsTrue}
use Rattle.std.specs.List.{list_all, starts_with, flat_map}
use Rattle.pst_token.specs.Lexemes.{Lexeme, fixed, name, number, spelled, IsLexeme, is_word_byte}

-- a space, a tab, a carriage return or a line feed
abbrev pub is_blank : ℕ → Bool
is_blank b = ((b == 0x20 || b == 0x09) || b == 0x0D) || b == 0x0A

abbrev pub is_line_feed : ℕ → Bool
is_line_feed b = b == 0x0A

-- what follows is nothing, or begins with a byte that passes
abbrev pub GoesOnWith : (ℕ → Bool) → List ℕ → Type 0
GoesOnWith passes [] = Unit {0}
GoesOnWith passes (b ∷ bytes) = IsTrue (passes b)

-- `//` up to the next line feed or the end
abbrev pub IsLineComment : List ℕ → List ℕ → Type 0
IsLineComment bytes rest =
    (text : List ℕ) × (bytes ≡ codes "//" ++ text) × IsTrue (list_all (λ b. not (is_line_feed b)) text) × GoesOnWith is_line_feed rest

-- `/*`, anything, `*/`
abbrev pub IsClosed : List ℕ → Type 0
IsClosed bytes = (text : List ℕ) × (bytes ≡ codes "/*" ++ text ++ codes "*/")

-- the same, up to the first `*/`
pub record IsBlockComment (bytes : List ℕ) : Type 0 where
  pub closed : IsClosed bytes
  pub first : (front more : List ℕ) → bytes ≡ front ++ more → IsClosed front → more ≡ []

abbrev pub begins_comment : List ℕ → Bool
begins_comment text = starts_with nat_eq text (codes "//") || starts_with nat_eq text (codes "/*")

-- no longer front of the text is spelled as a lexeme
abbrev pub IsLongest : List ℕ → List ℕ → Type 0
IsLongest bytes rest =
    (other : Lexeme) (more after : List ℕ) → IsLexeme other → spelled other ≡ bytes ++ more → rest ≡ more ++ after → more ≡ []

-- no letter, digit or `_` follows a number directly
abbrev pub EndsWell : Lexeme → List ℕ → Type 0
EndsWell (number bytes value) rest = GoesOnWith (λ b. not (is_word_byte b)) rest
EndsWell _ rest = Unit {0}

-- the lexeme may stand before the rest of the text; a comment goes before the mark `/`
pub record IsWhole (lexeme : Lexeme) (rest : List ℕ) : Type 0 where
  pub spells : IsLexeme lexeme
  pub longest : IsLongest (spelled lexeme) rest
  pub no_comment : begins_comment (spelled lexeme ++ rest) ≡ false
  pub ends : EndsWell lexeme rest

pub data Part : Type 0 where
  blank : ℕ → Part
  comment : List ℕ → Part
  lexeme : Lexeme → Part

abbrev pub bytes_of : Part → List ℕ
bytes_of (blank b) = b ∷ []
bytes_of (comment bytes) = bytes
bytes_of (lexeme l) = spelled l

abbrev pub text_of : List Part → List ℕ
text_of parts = flat_map bytes_of parts

-- the part may stand before the rest of the text
abbrev pub MayStand : Part → List ℕ → Type 0
MayStand (blank b) rest = IsTrue (is_blank b)
MayStand (comment bytes) rest = IsLineComment bytes rest ⊎ IsBlockComment bytes
MayStand (lexeme l) rest = IsWhole l rest

-- a number is at most 2 ^ 63 - 1
abbrev pub IsNarrow : Part → Type 0
IsNarrow (lexeme (number bytes value)) = value < 2 ^ 63
IsNarrow _ = Unit {0}

-- each part may stand where it does, before the rest, and no number is too wide
abbrev pub Stand : List Part → List ℕ → Type 0
Stand [] rest = Unit {0}
Stand (part ∷ parts) rest = MayStand part (text_of parts ++ rest) × IsNarrow part × Stand parts rest

-- the text begins with these parts, and goes on with the rest
pub record BeginsWith (text : List ℕ) (parts : List Part) (rest : List ℕ) : Type 0 where
  pub made : text ≡ text_of parts ++ rest
  pub stand : Stand parts rest
