-- Sets of whole numbers as spans.
use Rattle.std.specs.Prelude.{◌↔◌, ℤ, pos, ◌+ℤ◌, ◌≤ℤ◌, ◌<ℤ◌, List, All, AllPairs}
use Rattle.pst_expr.specs.declared.ranges.Span.{Span}
use Rattle.pst_expr.specs.Spans.{IsInSpans}

-- no span is reversed, and between each two a number is missing
pub record AreJoined (spans : List Span) : Type 0 where
  pub upright : All (λ s. s.low ≤ℤ s.high) spans
  pub apart : AllPairs (λ s t. (s.high +ℤ pos 1) <ℤ t.low) spans

-- the same numbers
abbrev pub HaveSame : List Span → List Span → Type 0
HaveSame spans others = (v : ℤ) → IsInSpans v spans ↔ IsInSpans v others

-- the numbers that are in both
abbrev pub HaveCommon : List Span → List Span → List Span → Type 0
HaveCommon spans others common = (v : ℤ) → IsInSpans v common ↔ (IsInSpans v spans × IsInSpans v others)
