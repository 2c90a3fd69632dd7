-- The values of a domain in the order of a seed.
use Rattle.std.specs.Prelude.{◌≡◌, ℕ, ◌+◌, ◌%◌, ◌<◌, ◌≤◌, ℤ, List, Option, Some, slice_get}
use Rattle.pst_expr.specs.declared.ranges.Span.{Span}
use Rattle.pst_expr.specs.Spans.{IsInSpan, size_of, values}
use Rattle.pst_values.specs.declared.options.Run.{Run}

-- the value at a place of the order that begins at the value of the start's index
abbrev pub option_at : List Span → ℕ → ℕ → Option ℤ
option_at spans start place = slice_get (values spans) ((start + place) % size_of spans)

-- from the place on, the values of the order are those of the domain from the index on
pub record IsRun (start size place : ℕ) (run : Run) : Type 0 where
  pub some : 0 < run.count
  pub places : place + run.count ≤ size
  pub indices : run.index + run.count ≤ size
  pub same : (k : ℕ) → k < run.count → (start + (place + k)) % size ≡ run.index + k

-- a span holds the values of a domain at some indices in a row
abbrev pub HoldsRun : List Span → ℕ → ℕ → Span → Type 0
HoldsRun spans index count span = (k : ℕ) → k < count → (v : ℤ) → slice_get (values spans) (index + k) ≡ Some v → IsInSpan v span
