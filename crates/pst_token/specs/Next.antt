-- The part that begins a text, found from the front. A law says that it is the only part that may stand there.
use Rattle.std.specs.Prelude.{◌≡◌, ℕ, suc, ◌+◌, Bool, true, false, not, ◌||◌, ◌&&◌, if◌then◌else◌, List, [], ◌∷◌, take, drop, slice_index, Option, Some, None, codes, nat_eq}
use Rattle.std.specs.Char.{is_ascii_digit}
use Rattle.std.specs.List.{starts_with, take_while}
use Rattle.std.specs.Option.{option_map}
use Rattle.pst_token.specs.declared.kind.Kind.{Kind}
use Rattle.pst_token.specs.Lookup.{kind_of}
use Rattle.pst_token.specs.Lexemes.{fixed, name, number, number_of, is_word_byte}
use Rattle.pst_token.specs.Parts.{Part, blank, comment, lexeme, is_blank, is_line_feed}

-- a reserved word or a mark, where there is one, and else another part
abbrev pub fixed_or : Option Kind → Option Part → Option Part
fixed_or (Some kind) other = Some (lexeme (fixed kind))
fixed_or None other = other

abbrev pub number_part : List ℕ → Option ℕ → Option Part
number_part bytes (Some value) = Some (lexeme (number bytes value))
number_part bytes None = None

-- the part that letters, digits and `_` are
unfoldable pub word_part : List ℕ → Option Part
word_part word =
    if is_ascii_digit (slice_index word 0) then number_part word (number_of word)
    else fixed_or (kind_of word) (Some (lexeme (name word)))

-- a mark of two bytes goes before one of a single byte
unfoldable pub mark_part : List ℕ → Option Part
mark_part text = fixed_or (kind_of (take 2 text)) (fixed_or (kind_of (take 1 text)) None)

-- how many bytes there are up to the first `*/`, itself included
abbrev pub closed_len : List ℕ → Option ℕ
closed_len [] = None
closed_len (b ∷ bytes) =
    if starts_with nat_eq (b ∷ bytes) (codes "*/") then Some 2 else option_map suc (closed_len bytes)

-- a comment that begins with `/*`
unfoldable pub block_part : List ℕ → Option Part
block_part text = option_map (λ n. comment (take (2 + n) text)) (closed_len (drop 2 text))

-- a comment that begins with `//`
unfoldable pub line_part : List ℕ → Option Part
line_part text = Some (comment (take_while (λ b. not (is_line_feed b)) text))

-- the part that begins the text
unfoldable pub next : List ℕ → Option Part
next [] = None
next (b ∷ bytes) =
    if is_blank b then Some (blank b)
    else (if is_word_byte b then word_part (take_while is_word_byte (b ∷ bytes))
    else (if starts_with nat_eq (b ∷ bytes) (codes "//") then line_part (b ∷ bytes)
    else (if starts_with nat_eq (b ∷ bytes) (codes "/*") then block_part (b ∷ bytes)
    else mark_part (b ∷ bytes))))
