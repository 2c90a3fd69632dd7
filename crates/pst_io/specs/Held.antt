-- Bytes that a sink in memory holds.
use Rattle.std.specs.Prelude.{ℕ, List}

-- the bytes written, how many more there is room for, and how many are taken at a time
pub record HeldBytes : Type 0 where
  pub written : List ℕ
  pub spare : ℕ
  pub most : ℕ
