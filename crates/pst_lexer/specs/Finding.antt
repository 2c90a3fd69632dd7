-- What begins a text that may go on.
use Rattle.std.specs.Prelude.{◌≡◌, ℕ, ◌+◌, ◌^◌, ◌<◌, ◌≤◌, Bool, true, false, not, ◌||◌, ◌&&◌, if◌then◌else◌, pos, List, [], ◌∷◌, ◌++◌, length, take, drop, Option, Some, None, is_none, codes, nat_eq, IsTrue}
use Rattle.std.specs.List.{list_all, starts_with}
use Rattle.pst_token.specs.Spelling.{spelling_of}
use Rattle.pst_token.specs.Lexemes.{fixed, name, number, number_of, is_word_byte}
use Rattle.pst_token.specs.Parts.{Part, blank, comment, lexeme, bytes_of, is_line_feed}
use Rattle.pst_token.specs.Next.{next, word_part, closed_len}
use Rattle.pst_lexer.specs.declared.find.Found.{Found}
use Rattle.pst_lexer.specs.declared.find.Found.TheVariants as found

-- what may follow: nothing behind the last bytes
abbrev pub MayFollow : Bool → List ℕ → Type 0
MayFollow true more = more ≡ []
MayFollow false more = Unit {0}

-- the bytes begin a part and don't end it: they are a word, or a comment that isn't closed
abbrev pub is_open : List ℕ → Bool
is_open [] = true
is_open (b ∷ bytes) =
    if is_word_byte b then list_all is_word_byte bytes
    else (starts_with nat_eq (b ∷ bytes) (codes "//") && list_all (λ c. not (is_line_feed c)) (b ∷ bytes)
    || starts_with nat_eq (b ∷ bytes) (codes "/*") && is_none (closed_len (drop 2 (b ∷ bytes))))

-- the part of this length begins the text, whatever may follow
pub record Begins (text : List ℕ) (is_last : Bool) (len : ℕ) (part : Part) : Type 0 where
  pub some : 0 < len
  pub within : len ≤ length text
  pub bytes : bytes_of part ≡ take len text
  pub found : (more : List ℕ) → MayFollow is_last more → next (text ++ more) ≡ Some part

-- no part begins the text, whatever may follow
abbrev pub BeginsNone : List ℕ → Bool → Type 0
BeginsNone text is_last = (more : List ℕ) → MayFollow is_last more → next (text ++ more) ≡ None

-- a part that gives no token
abbrev pub IsGap : Part → Type 0
IsGap (lexeme l) = ⊥
IsGap _ = Unit {0}

-- the answer tells what begins the text
abbrev pub Tells : List ℕ → Bool → Found → Type 0
Tells text is_last (found.Open seen) = (is_last ≡ false) × (seen ≤ length text) × IsTrue (is_open (take seen text))
Tells text is_last found.Nothing = BeginsNone text is_last
Tells text is_last (found.Gap len) = (part : Part) × IsGap part × Begins text is_last len part
Tells text is_last (found.Fixed kind len) = Begins text is_last len (lexeme (fixed kind))
Tells text is_last (found.Name len) = Begins text is_last len (lexeme (name (take len text)))
Tells text is_last (found.Number value len) =
    (n : ℕ) × (value ≡ pos n) × (n < 2 ^ 63) × Begins text is_last len (lexeme (number (take len text) n))
Tells text is_last found.Wide =
    (n : ℕ) × (len : ℕ) × (2 ^ 63 ≤ n) × Begins text is_last len (lexeme (number (take len text) n))

-- the answer tells what letters, digits and `_` are that nothing of the kind follows
abbrev pub TellsWord : List ℕ → Found → Type 0
TellsWord word found.Nothing = word_part word ≡ None
TellsWord word (found.Fixed kind len) =
    (len ≡ length word) × (spelling_of kind ≡ word) × (word_part word ≡ Some (lexeme (fixed kind)))
TellsWord word (found.Name len) = (len ≡ length word) × (word_part word ≡ Some (lexeme (name word)))
TellsWord word (found.Number value len) =
    (n : ℕ) × (value ≡ pos n) × (n < 2 ^ 63) × (len ≡ length word) × (word_part word ≡ Some (lexeme (number word n)))
TellsWord word found.Wide = (n : ℕ) × (2 ^ 63 ≤ n) × (word_part word ≡ Some (lexeme (number word n)))
TellsWord word _ = ⊥

-- the answer tells which number it is
abbrev pub TellsNumber : List ℕ → Found → Type 0
TellsNumber word found.Nothing = number_of word ≡ None
TellsNumber word (found.Number value len) = (n : ℕ) × (value ≡ pos n) × (n < 2 ^ 63) × (len ≡ length word) × (number_of word ≡ Some n)
TellsNumber word found.Wide = (n : ℕ) × (2 ^ 63 ≤ n) × (number_of word ≡ Some n)
TellsNumber word _ = ⊥
