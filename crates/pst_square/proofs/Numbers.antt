-- Two numbers are one or two.
use Rattle.std.proofs.Common.{◌≡◌, ◌≢◌, ◌≤◌, ◌<◌, ◌⊎◌, inl, inr, ℕ, arith}
use Rattle.std.proofs.lemmas.Bool.{cases_lt}

pub same_or_not : (a b : ℕ) → (a ≡ b) ⊎ (a ≢ b)
same_or_not a b = go (cases_lt a b) (cases_lt b a)
  where
    go : (a < b) ⊎ (b ≤ a) → (b < a) ⊎ (a ≤ b) → (a ≡ b) ⊎ (a ≢ b)
    go (inl less) more = inr (omega (arith, less))
    go (inr more) (inl less) = inr (omega (arith, less))
    go (inr more) (inr less) = inl (omega (arith, less, more))
