-- What a contract sees of a reader of words.
use Rattle.std.specs.Prelude.{ℕ}

-- the seed, and the place of the next word
pub record Reader : Type 0 where
  pub seed : ℕ
  pub place : ℕ
