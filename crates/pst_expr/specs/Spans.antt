-- The values of spans and domains.
use Rattle.std.specs.Prelude.{ℕ, zero, suc, ◌+◌, ◌^◌, ◌<◌, ℤ, pos, ◌+ℤ◌, ◌-ℤ◌, ◌≤ℤ◌, ◌<ℤ◌, unsigned_abs, List, [], ◌∷◌, ◌≢◌, All, Any, AllPairs, sum_by, flat_map}
use Rattle.pst_expr.specs.declared.ranges.Span.{Span}

-- a span has its low, its high and all numbers between them
abbrev pub IsInSpan : ℤ → Span → Type 0
IsInSpan v s = (s.low ≤ℤ v) × (v ≤ℤ s.high)

abbrev pub IsInSpans : ℤ → List Span → Type 0
IsInSpans v spans = Any (IsInSpan v) spans

-- how many numbers a span has that isn't reversed
abbrev pub count_of : Span → ℕ
count_of s = unsigned_abs (s.high -ℤ s.low) + 1

-- how many numbers spans have together
abbrev pub size_of : List Span → ℕ
size_of spans = sum_by count_of spans

-- the spans of a domain: at least one, none reversed, in ascending order without meeting, and fewer than 2^64 numbers
pub record IsDomain (spans : List Span) : Type 0 where
  pub some : spans ≢ []
  pub upright : All (λ s. s.low ≤ℤ s.high) spans
  pub ascending : AllPairs (λ s t. s.high <ℤ t.low) spans
  pub few : size_of spans < 2 ^ 64

-- n whole numbers in a row, the first of them z
unfoldable pub numbers_from : ℤ → ℕ → List ℤ
numbers_from z zero = []
numbers_from z (suc n) = z ∷ numbers_from (z +ℤ pos 1) n

-- the numbers of a domain in ascending order: those of each span in turn
abbrev pub values : List Span → List ℤ
values spans = flat_map (λ s. numbers_from s.low (count_of s)) spans
