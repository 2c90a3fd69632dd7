-- A part at the front of a text.
use Rattle.std.proofs.Common.{◌≡◌, ℕ, List, ◌++◌}
use Rattle.pst_token.specs.Parts.{Part, bytes_of, MayStand}

-- the part begins the text
pub record Fits (text : List ℕ) (part : Part) : Type 0 where
  pub rest : List ℕ
  pub split : text ≡ bytes_of part ++ rest
  pub stands : MayStand part rest
