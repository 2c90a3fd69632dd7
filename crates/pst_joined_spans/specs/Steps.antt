-- Joining spans and cutting them, one after another.
use Rattle.std.specs.Prelude.{◌↔◌, ◌⊎◌, ℤ, pos, ◌+ℤ◌, ◌≤ℤ◌, int_le, int_lt, Bool, List, [], ◌∷◌, ◌++◌, length, if◌then◌else◌}
use Rattle.std.specs.List.{AllAdjacentBelow}
use Rattle.std.specs.Int.{int_max, int_min}
use Rattle.pst_expr.specs.declared.ranges.Span.{Span}
use Rattle.pst_expr.specs.Spans.{IsInSpan, IsInSpans}

abbrev pub span : ℤ → ℤ → Span
span low high = record { low = low; high = high }

abbrev pub is_upright : Span → Bool
is_upright s = int_le s.low s.high

-- ---- joining

-- no number is missing between a span and one that begins in it or behind it
abbrev pub touches : Span → Span → Bool
touches s t = int_le t.low (s.high +ℤ pos 1)

abbrev pub both : Span → Span → Span
both s t = span s.low (int_max s.high t.high)

-- a span and those behind it, joined where they touch
abbrev pub joined_from : Span → List Span → List Span
joined_from s [] = s ∷ []
joined_from s (t ∷ more) = if touches s t then joined_from (both s t) more else s ∷ joined_from t more

abbrev pub joined : List Span → List Span
joined [] = []
joined (s ∷ more) = joined_from s more

-- by their lows
abbrev pub AreByLow : List Span → Type 0
AreByLow spans = AllAdjacentBelow (λ s t. s.low ≤ℤ t.low) spans (length spans)

-- ---- cutting

-- what a span has of another
abbrev pub cut : Span → Span → List Span
cut r s = if int_le (int_max r.low s.low) (int_min r.high s.high) then span (int_max r.low s.low) (int_min r.high s.high) ∷ [] else []

-- what a span has of ascending spans
abbrev pub cuts : Span → List Span → List Span
cuts r [] = []
cuts r (s ∷ more) = if int_lt r.high s.low then [] else cut r s ++ cuts r more

-- a span's numbers, as far as spans have them, beside others
abbrev pub HasMore : List Span → List Span → Span → List Span → Type 0
HasMore before spans r after = (v : ℤ) → IsInSpans v after ↔ (IsInSpans v before ⊎ (IsInSpans v spans × IsInSpan v r))
