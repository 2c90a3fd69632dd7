-- Which pairs of a square are kept.
use Rattle.std.specs.Prelude.{◌≡◌, ◌<◌, ◌⊎◌, ℕ}
use Rattle.pst_scen.specs.declared.rows.Rows.{Rows}
use Rattle.pst_scen.specs.Rows.{IsSquare, Has}

-- a leads to b through a third number
abbrev pub IsBridged : Rows → ℕ → ℕ → Type 0
IsBridged rows a b = (c : ℕ) × (c < rows.size) × Has rows a c × Has rows c b

-- Pairs of the square are kept, and each one that isn't leads through a third number.
pub record IsReduced (rows kept : Rows) : Type 0 where
  pub square : IsSquare kept
  pub size : kept.size ≡ rows.size
  pub within : (a b : ℕ) → a < rows.size → b < rows.size → Has kept a b → Has rows a b
  pub bridged : (a b : ℕ) → a < rows.size → b < rows.size → Has rows a b → Has kept a b ⊎ IsBridged rows a b
