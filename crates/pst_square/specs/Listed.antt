-- Lists of the numbers that have something.
use Rattle.std.specs.Prelude.{◌≡◌, ◌<◌, ℕ, List, length, get_or}

-- numbers below the given one, among them all that have the property
pub record ListsAll (P : ℕ → Type 0) (to : ℕ) (list : List ℕ) : Type 0 where
  pub inside : (i : ℕ) → i < length list → get_or list i 0 < to
  pub all : (a : ℕ) → a < to → P a → (i : ℕ) × (i < length list) × (get_or list i 0 ≡ a)
