-- Squares of bits, one for each pair of actions.
use Rattle.std.specs.Prelude.{◌≡◌, ◌+◌, ◌*◌, ◌/◌, ◌%◌, ℕ, length, get_or, IsBitSet}
use Rattle.pst_scen.specs.declared.rows.Rows.{Rows}

-- the number of words in which a row of so many bits stands
abbrev pub row_words : ℕ → ℕ
row_words size = (size + 63) / 64

-- there are words for each row
abbrev pub IsSquare : Rows → Type 0
IsSquare rows = length rows.words ≡ rows.size * row_words rows.size

-- the pair's bit is set: that of the second, counted from the lowest, in the row of the first
abbrev pub Has : Rows → ℕ → ℕ → Type 0
Has rows a b = IsBitSet (get_or rows.words (a * row_words rows.size + b / 64) 0) (b % 64)
