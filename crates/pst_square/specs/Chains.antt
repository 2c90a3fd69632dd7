-- Chains of pairs of numbers.
use Rattle.std.specs.Prelude.{◌<◌, ℕ}

-- a pair of the relation, or more of them one after another, of which each inner number is below the size
pub data IsChain (R : ℕ → ℕ → Type 0) (size : ℕ) : ℕ → ℕ → Type 0 where
  Once : (a b : ℕ) → R a b → IsChain R size a b
  Chained : (a c b : ℕ) → c < size → IsChain R size a c → IsChain R size c b → IsChain R size a b
