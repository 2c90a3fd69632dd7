-- Values that come down to declarations from their bases.
use Rattle.std.specs.Prelude.{◌≡◌, ◌<◌, ◌↔◌, ℕ, List, Option, Some, None, IsSome, slice_get, slice_index_or}
use Rattle.std.specs.Option.{option_and_then}
use Rattle.pst_steady.specs.declared.reach.Seed.{Seed}
use Rattle.pst_steady.specs.declared.reach.Seed.TheVariants as seed

-- a value comes to a number: its own, or where it takes that of its base, the one that comes to this
pub data Reaches (seeds : List Seed) (bases : List (Option ℕ)) : ℕ → ℕ → Type 0 where
  Here : (i k : ℕ) → slice_get seeds i ≡ Some (seed.Own k) → Reaches seeds bases i k
  On : (i j k : ℕ) → slice_get seeds i ≡ Some seed.Inherit → slice_get bases i ≡ Some (Some j) → Reaches seeds bases j k → Reaches seeds bases i k

abbrev pub value_at : List (Option ℕ) → ℕ → Option ℕ
value_at values i = option_and_then (λ v. v) (slice_get values i)

-- the value by those that are kept
abbrev pub value_by : List (Option ℕ) → List (Option ℕ) → ℕ → Option Seed → Option ℕ
value_by bases values i (Some (seed.Own k)) = Some k
value_by bases values i (Some seed.Inherit) = option_and_then (value_at values) (value_at bases i)
value_by bases values i (Some seed.Stop) = None
value_by bases values i None = None

abbrev pub next_value : List Seed → List (Option ℕ) → List (Option ℕ) → ℕ → Option ℕ
next_value seeds bases values i = value_by bases values i (slice_get seeds i)

-- each value that is kept comes to its number
abbrev pub AreSound : List Seed → List (Option ℕ) → List (Option ℕ) → Type 0
AreSound seeds bases values = (i k : ℕ) → value_at values i ≡ Some k → Reaches seeds bases i k

-- where there is a value by those that are kept, one is kept
abbrev pub IsSettled : List Seed → List (Option ℕ) → List (Option ℕ) → ℕ → Type 0
IsSettled seeds bases values i = (k : ℕ) → next_value seeds bases values i ≡ Some k → IsSome (value_at values i)

-- each value that comes to a number is kept, and no others
abbrev pub AreReached : List Seed → List (Option ℕ) → List (Option ℕ) → Type 0
AreReached seeds bases values = (i k : ℕ) → value_at values i ≡ Some k ↔ Reaches seeds bases i k
